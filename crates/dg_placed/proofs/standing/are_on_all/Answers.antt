use Rattle.std.proofs.Common.{◌≡◌, ℕ, true, get_or, refl, sym, ◌∙◌, below_more}
use Rattle.dg_model.specs.Tables.{stands_on}
use Rattle.dg_placed.proofs.StandLaws.{all_have, lacks_one}
use Rattle.dg_placed.proofs.standing.are_on_all.Goals as goal

pub returns-then-not-are_on : goal.returns-then-not-are_on
returns-then-not-are_on c =
    let k = c.loop-boundary.boundary-index in (
      λ h. absurd (cc),
      λ all. absurd (lacks_one c.args.sites.now c.args.boundaries.now k (get_or c.args.boundaries.now k 0) c.loop-boundary-test.true refl (sym c.are_on.ensures ∙ c.if-not-are_on.true) all),
    )

pub loop-boundary-preserved : goal.loop-boundary-preserved
loop-boundary-preserved c =
    below_more (λ (k : ℕ). stands_on (get_or c.args.boundaries.now k 0) c.args.sites.now ≡ true) _ c.loop-boundary.invariant (sym c.are_on.ensures ∙ c.if-not-are_on.false)

pub returns : goal.returns
returns c = (
  λ h. all_have c.args.sites.now c.args.boundaries.now c.loop-boundary.boundary-index c.loop-boundary-test.false c.loop-boundary.invariant,
  λ all. refl,
)
