use Rattle.dg_volume.proofs.CommitLaws.{IsFailedUpto}
use Rattle.dg_volume.proofs.commits.fail_marked.Given as goal

abbrev pub invariant-loop-member : goal.invariant-loop-member
invariant-loop-member g l = IsFailedUpto g.R.Rack l.marks l.member l.initial.store l.store
