use Rattle.dg_uses.proofs.Ran.{ran_views}
use Rattle.dg_uses.proofs.laws.replies_by_views.Goals as goal

pub returns : goal.returns
returns g c = λ start end shape events replies chain last ran views. ran_views (g.R.Rack.steady start) (g.R.Rack.tells end) shape events replies chain last ran views
