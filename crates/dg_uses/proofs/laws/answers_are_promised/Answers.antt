use Rattle.dg_uses.proofs.Ran.{ran_answers}
use Rattle.dg_uses.proofs.laws.answers_are_promised.Goals as goal

pub returns : goal.returns
returns g c = λ start end shape events replies whole run. ran_answers (g.R.Rack.steady start) (g.R.Rack.tells end) shape events replies whole run
