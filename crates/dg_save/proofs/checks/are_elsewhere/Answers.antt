use Rattle.std.proofs.Common.{refl}
use Rattle.dg_save.proofs.CheckLemmas.{elsewhere_more}
use Rattle.dg_save.proofs.checks.are_elsewhere.Goals as goal

pub loop-copy-preserved : goal.loop-copy-preserved
loop-copy-preserved c = elsewhere_more _ _ _ _ c.loop-copy-test.true c.loop-copy.invariant (c.if-not-is_elsewhere.ensures.0 refl)
