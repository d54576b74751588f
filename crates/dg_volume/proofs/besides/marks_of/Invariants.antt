use Rattle.dg_volume.proofs.BesideSteps.{AreMarkedTo}
use Rattle.dg_volume.proofs.besides.marks_of.Given as goal

abbrev pub invariant-loop-place : goal.invariant-loop-place
invariant-loop-place l = AreMarkedTo l.blocks l.count l.place l.marks.items
