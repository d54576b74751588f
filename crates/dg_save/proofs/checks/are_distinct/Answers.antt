use Rattle.std.proofs.Common.{refl}
use Rattle.std.proofs.lemmas.Bool.{false≢true}
use Rattle.dg_save.proofs.CheckLemmas.{distinct_all, distinct_more}
use Rattle.dg_save.proofs.checks.are_distinct.Goals as goal

pub loop-place-preserved : goal.loop-place-preserved
loop-place-preserved c = distinct_more _ _ _ c.loop-place-test.true c.loop-place.invariant (λ there. false≢true (c.if-stands_in.ensures.1 there))

pub returns : goal.returns
returns c = ((λ e. distinct_all _ _ c.loop-place-test.false c.loop-place.invariant), (λ are. refl))
