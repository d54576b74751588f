use Rattle.dg_uses.proofs.Ran.{ran_same}
use Rattle.dg_uses.proofs.laws.replies_are_a_function.Goals as goal

pub returns : goal.returns
returns g c = λ start end first other shape events replies others x y.
    ran_same c.steps_keep_steady.ensures c.blank_arrays_are_steady.ensures (g.R.Rack.steady start) (g.Q.Rack.steady first) (g.R.Rack.tells end) (g.Q.Rack.tells other) shape events replies others x y
