use Rattle.std.proofs.Common.{◌∙◌, ◌<◌, ◌≤◌, ℕ, get_or, inl, inr, sym, ap, arith, length}
use Rattle.std.specs.Prelude.{◌==◌}
use Rattle.std.proofs.lemmas.Bool.{cases_eq}
use Rattle.std.proofs.lemmas.Grind.{get_or_default_zero}
use Rattle.std.proofs.lemmas.List.Sums.{position_or_len_is}
use Rattle.dg_model.proofs.SiteLists.{apart_test, same_test}
use Rattle.dg_volume.proofs.in_use.InUse.place.Goals as goal

pub returns-then-index-boundary-clause-some : goal.returns-then-index-boundary-clause-some
returns-then-index-boundary-clause-some c =
    let live = c.args.self.now.live.items in
    let low : c.loop-place.place < length live = omega arith in
    let here = sym (get_or_default_zero live c.loop-place.place c.index.result.now low) ∙ sym c.index.ensures ∙ c.if-index-boundary.true in
    position_or_len_is (λ t. t == c.args.boundary) live c.loop-place.place 0 (omega arith) c.loop-place.invariant (λ below. same_test (get_or live c.loop-place.place 0) c.args.boundary here)

pub loop-place-preserved : goal.loop-place-preserved
loop-place-preserved c k below =
    let live = c.args.self.now.live.items in
    let low : c.loop-place.place < length live = omega arith in
    elim (cases_eq k c.loop-place.place) [
      | inl same ↦ apart_test (get_or live k 0) c.args.boundary (λ is.
          c.if-index-boundary.false (c.index.ensures ∙ get_or_default_zero live c.loop-place.place c.index.result.now low ∙ ap (λ (n : ℕ). get_or live n 0) (sym same) ∙ is))
      | inr apart ↦ c.loop-place.invariant k (omega (arith, below, apart))
    ]

pub returns-clause-none : goal.returns-clause-none
returns-clause-none c =
    let live = c.args.self.now.live.items in
    let end : length live ≤ c.loop-place.place = omega arith in
    position_or_len_is (λ t. t == c.args.boundary) live (length live) 0 (omega arith) (λ k low. c.loop-place.invariant k (omega (arith, low, end))) (λ low. absurd (omega (arith, low)))
