use Rattle.dg_open.specs.Seen.{AreSealed}
use Rattle.dg_open.proofs.labels.is_unclean.Given as goal

abbrev pub invariant-loop-member : goal.invariant-loop-member
invariant-loop-member l = AreSealed l.labels l.greatest l.member
