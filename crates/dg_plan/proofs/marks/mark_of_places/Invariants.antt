use Rattle.dg_plan.proofs.MarkLaws.{IsMarking}
use Rattle.dg_plan.proofs.marks.mark_of_places.Given as goal

abbrev pub invariant-loop-place : goal.invariant-loop-place
invariant-loop-place l = IsMarking l.shape l.block l.place l.mark
