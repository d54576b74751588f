use Rattle.std.proofs.Common.{◌≡◌, true, refl, sym, ◌∙◌}
use Rattle.dg_model.specs.declared.sites.Site.{Site}
use Rattle.dg_placed.proofs.StandLaws.{all_on_these, any_at, more_with, strays_one}
use Rattle.dg_placed.proofs.standing.are_on_these.Goals as goal

pub returns-then-not-is_one_of : goal.returns-then-not-is_one_of
returns-then-not-is_one_of c =
    let none : Site = record { boundary = 0; slot = 0 } in (
      λ h. absurd (cc),
      λ all. absurd (strays_one c.args.sites.now c.args.boundaries.now c.loop-site.site-index none c.loop-site-test.true (sym c.is_one_of.ensures ∙ c.if-not-is_one_of.true) all),
    )

pub loop-site-preserved : goal.loop-site-preserved
loop-site-preserved c =
    let none : Site = record { boundary = 0; slot = 0 } in
    more_with (λ (site : Site). any_at site.boundary c.args.boundaries.now ≡ true) c.args.sites.now c.loop-site.site-index none c.loop-site-test.true c.loop-site.invariant
    (sym c.is_one_of.ensures ∙ c.if-not-is_one_of.false)

pub returns : goal.returns
returns c = (
  λ h. all_on_these c.args.sites.now c.args.boundaries.now c.loop-site.site-index c.loop-site-test.false c.loop-site.invariant,
  λ all. refl,
)
