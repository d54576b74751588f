use Rattle.dg_open.proofs.TableLemmas.{Walked}
use Rattle.dg_open.proofs.bodies.first_state.Given as goal

abbrev pub invariant-loop-member : goal.invariant-loop-member
invariant-loop-member g l = Walked g.R.Rack l.fn.rack l.rack l.labels l.greatest l.failed l.member
