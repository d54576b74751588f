use Rattle.std.proofs.Common.{◌≡◌, ◌∙◌, ◌+◌, ◌-◌, ℕ, arith, inl, inr, refl, subst}
use Rattle.std.proofs.lemmas.Bool.{cases_eq}
use Rattle.dg_io.specs.ViewLaws.{keeps_both, keeps_same}
use Rattle.ufs_model.specs.Claims.{level_of, source_fragments}
use Rattle.ufs_pointer.specs.KindLaws.{loses_along, only_both, only_none}
use Rattle.dg_claims.specs.Kept.{claimed_by}
use Rattle.dg_claims.specs.Scans.{HadAbove, HasNoPointers, IsIndirect, IsRightAbove, IsScanned}
use Rattle.dg_claims.specs.ThereLaws.{not_before}
use Rattle.dg_claims.proofs.ThereScan.{none_above}
use Rattle.dg_claims.proofs.levels.scan_levels.Goals as goal

pub returns-in_err-scan_level-clause-fetched : goal.returns-in_err-scan_level-clause-fetched
returns-in_err-scan_level-clause-fetched g c =
    let so_far = c.loop-done.invariant in
    let told = c.scan_level.ensures.keeps.told in
    only_both g.met.V.View.fetched_both told (λ is v h. ((so_far.keeps.stands v (h.0), so_far.right (told is) v (h.0) (h.1)), λ b at. at)) so_far.fetched c.scan_level.ensures.fetched

pub returns-then-not-branch-clause-fetched : goal.returns-then-not-branch-clause-fetched
returns-then-not-branch-clause-fetched g c =
    let so_far = c.loop-done.invariant in
    let told = c.scan_level.ensures.keeps.told in
    only_both g.met.V.View.fetched_both told (λ is v h. ((so_far.keeps.stands v (h.0), so_far.right (told is) v (h.0) (h.1)), λ b at. at)) so_far.fetched c.scan_level.ensures.fetched

pub loop-done-init : goal.loop-done-init
loop-done-init g c = record {
  keeps = keeps_same c.args.view.now c.requires.sound (g.met.V.View.unchanged c.args.view.now);
  levels = refl;
  geometry = refl;
  none = c.requires.none;
  right = λ is v holds right. right;
  there = record { each = λ is v h b above. absurd (none_above c.args.g.now v b above) };
  fetched = only_none (IsIndirect c.args.g.now) c.args.view.now (g.met.V.View.fetched_none c.args.view.now);
}

pub loop-done-preserved : goal.loop-done-preserved
loop-done-preserved g c =
    let so_far = c.loop-done.invariant in
    let one = c.in_ok-scan_level.ensures in
    let less : 3 - c.loop-done.done - 1 ≡ 3 - (c.loop-done.done + 1) = omega arith in record {
      keeps = keeps_both g.met.V.View.further c.args.view.now c.loop-done.view c.scan_level.new.view so_far.keeps one.keeps;
      levels = one.levels ∙ so_far.levels;
      geometry = one.geometry ∙ so_far.geometry;
      none = subst (λ (k : ℕ). HasNoPointers (claimed_by c.scan_level.new.claims.runs) k) less one.none;
      right = λ is v holds right.
          subst (λ (k : ℕ). IsRightAbove (source_fragments c.args.g.now v) (claimed_by c.scan_level.new.claims.runs) k) less
          (one.right c.if-not-branch.false is v (so_far.keeps.stands v holds) (so_far.right (one.keeps.told is) v holds right));
      there = record {
        each = λ is v h b above.
            let told = one.keeps.told in
            elim (cases_eq (level_of above.0) (3 - c.loop-done.done)) [
              | inl same ↦ not_before (g.V.View.is_gone c.args.view.now) (g.V.View.is_gone c.loop-done.view) b so_far.keeps.stays
                  ((one.there c.if-not-branch.false).each is v (so_far.keeps.stands v (h.0), so_far.right (told is) v (h.0) (h.1)) b (above.0, above.1, same))
              | inr apart ↦ let high = above.2 in so_far.there.each (told is) v h b (above.0, above.1, omega (arith, high, apart))
            ];
      };
      fetched = only_both g.met.V.View.fetched_both one.keeps.told (λ is v h. ((so_far.keeps.stands v (h.0), so_far.right (one.keeps.told is) v (h.0) (h.1)), λ b at. at)) so_far.fetched one.fetched;
    }

pub returns-clause-right : goal.returns-clause-right
returns-clause-right g c = λ got is v holds right.
    subst (λ (k : ℕ). IsRightAbove (source_fragments c.args.g.now v) (claimed_by c.loop-done.claims.runs) k) (let none : 3 - c.loop-done.done ≡ 0 = omega (arith, c.loop-done-test.false) in none)
    (c.loop-done.invariant.right is v holds right)

pub returns-then-not-branch-clause-lost : goal.returns-then-not-branch-clause-lost
returns-then-not-branch-clause-lost g c = λ got.
    let so_far = c.loop-done.invariant in
    let told = c.scan_level.ensures.keeps.told in
    loses_along {still = IsScanned (g.V.View.stands_for c.loop-done.view) c.args.g.now (claimed_by c.loop-done.claims.runs) (3 - c.loop-done.done)} so_far.keeps.blocks (λ b h. h) (λ h. h) (λ is v h. ((so_far.keeps.stands v (h.0), so_far.right (told is) v (h.0) (h.1)), λ b at. at))
    (c.in_ok-scan_level.ensures.lost c.if-not-branch.true)

pub returns-clause-there : goal.returns-clause-there
returns-clause-there g c = λ got.
    subst (λ (k : ℕ). HadAbove g.V.View c.args.view.now c.loop-done.view c.args.g.now (claimed_by c.args.claims.now.runs) k) (let none : 3 - c.loop-done.done ≡ 0 = omega (arith, c.loop-done-test.false) in none)
    c.loop-done.invariant.there
