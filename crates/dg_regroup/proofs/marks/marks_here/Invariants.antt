use Rattle.dg_regroup.proofs.MarkLemmas.{IsHereUpto}
use Rattle.dg_regroup.proofs.marks.marks_here.Given as goal

abbrev pub invariant-loop-member : goal.invariant-loop-member
invariant-loop-member l = IsHereUpto l.live l.member l.below l.marks
