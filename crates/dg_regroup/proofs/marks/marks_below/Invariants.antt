use Rattle.dg_regroup.proofs.MarkLemmas.{IsBelowUpto}
use Rattle.dg_regroup.proofs.marks.marks_below.Given as goal

abbrev pub invariant-loop-member : goal.invariant-loop-member
invariant-loop-member l = IsBelowUpto l.live l.member l.marks l.below
