use Rattle.std.proofs.Common.{refl}
use Rattle.std.proofs.lemmas.Bool.{false≢true}
use Rattle.dg_save.proofs.SiteLemmas.{taken_all, taken_more, taken_refused, twice_refused}
use Rattle.dg_save.proofs.sites.take_sites.Goals as goal

pub returns-then-is_on-clause-can : goal.returns-then-is_on-clause-can
returns-then-is_on-clause-can c = (
  λ e. absurd (false≢true e),
  λ can. absurd (twice_refused _ _ _ _ _ c.loop-place-test.true c.if-is_on.ensures can),
)

pub returns-then-not-take_site-clause-can : goal.returns-then-not-take_site-clause-can
returns-then-not-take_site-clause-can c = (
  λ e. absurd (false≢true e),
  λ can. absurd (taken_refused _ _ _ _ _ _ c.loop-place-test.true c.loop-place.invariant c.if-is_on.ensures
      (λ vacant. false≢true (c.if-not-take_site.ensures.vacant.1 vacant)) can),
)

pub loop-place-preserved : goal.loop-place-preserved
loop-place-preserved c =
    taken_more _ _ _ _ _ _ _ c.loop-place-test.true c.loop-place.invariant c.requires c.if-is_on.ensures (c.if-not-take_site.ensures.vacant.0 refl) c.if-not-take_site.ensures.taken

pub returns-clause-can : goal.returns-clause-can
returns-clause-can c = ((λ e. (taken_all _ _ _ _ _ c.loop-place-test.false c.loop-place.invariant).0), (λ can. refl))

pub returns-clause-taken : goal.returns-clause-taken
returns-clause-taken c = (taken_all _ _ _ _ _ c.loop-place-test.false c.loop-place.invariant).1
