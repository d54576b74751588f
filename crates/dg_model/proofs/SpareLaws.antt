-- Sites that a block can do without. A library for the crates above.
use Rattle.std.proofs.Common.{◌≡◌, ◌≢◌, ◌≤◌, ◌+◌, ◌==◌, ◌||◌, ℕ, Bool, true, false, cond, not, List, [], ◌∷◌, length, drop, inl, inr, refl, sym, ◌∙◌, ap, arith}
use Rattle.std.proofs.lemmas.Bool.{both_ways, cases_Bool}
use Rattle.dg_model.specs.Moves.{has_met, off_target, spare}
use Rattle.dg_model.specs.Tables.{count_on}
use Rattle.dg_model.proofs.SiteLists.{apart_test, count_on-cons, one_if, same_test, zero_if}
use Rattle.dg_model.specs.declared.sites.Site.{Site}

pub on_here : (s : ℕ) (x : Site) (xs : List Site) → x.boundary ≡ s → count_on s (x ∷ xs) ≡ 1 + count_on s xs
on_here s x xs e = omega (arith, count_on-cons s x xs, one_if (x.boundary == s) (same_test x.boundary s e))

pub on_there : (s : ℕ) (x : Site) (xs : List Site) → x.boundary ≢ s → count_on s (x ∷ xs) ≡ count_on s xs
on_there s x xs ne = omega (arith, count_on-cons s x xs, zero_if (x.boundary == s) (apart_test x.boundary s ne))

module _ (targets : ℕ → Bool) where
  -- ---- the first of the sites

  pub off_head : (x : Site) (xs : List Site) → targets x.boundary ≡ false → off_target targets (x ∷ xs) ≡ x ∷ off_target targets xs
  off_head x xs miss = ap (λ (b : Bool). cond (not b) (x ∷ off_target targets xs) (off_target targets xs)) miss

  pub off_tail : (x : Site) (xs : List Site) → targets x.boundary ≡ true → off_target targets (x ∷ xs) ≡ off_target targets xs
  off_tail x xs hit = ap (λ (b : Bool). cond (not b) (x ∷ off_target targets xs) (off_target targets xs)) hit

  pub met_head : (x : Site) (xs : List Site) → targets x.boundary ≡ true → has_met targets (x ∷ xs) ≡ true
  met_head x xs hit = ap (λ (b : Bool). b || has_met targets xs) hit

  pub met_tail : (x : Site) (xs : List Site) → targets x.boundary ≡ false → has_met targets (x ∷ xs) ≡ has_met targets xs
  met_tail x xs miss = ap (λ (b : Bool). b || has_met targets xs) miss

  -- ---- what is on a boundary

  -- where no site is on a target, there is none on this one
  pub unmet_none : (sites : List Site) (s : ℕ) → has_met targets sites ≡ false → targets s ≡ true → count_on s sites ≡ 0
  unmet_none [] s unmet wanted = refl
  unmet_none (x ∷ xs) s unmet wanted = elim (cases_Bool (targets x.boundary)) [
    | inl hit ↦ absurd (both_ways (has_met targets (x ∷ xs)) unmet (met_head x xs hit))
    | inr miss ↦
        let apart : x.boundary ≢ s = λ e. both_ways (targets x.boundary) miss (ap targets e ∙ wanted) in
        on_there s x xs apart ∙ unmet_none xs s (sym (met_tail x xs miss) ∙ unmet) wanted
  ]

  -- where each site is on a target, there is none elsewhere
  pub no_other : (sites : List Site) (s : ℕ) → off_target targets sites ≡ [] → targets s ≡ false → count_on s sites ≡ 0
  no_other [] s none unwanted = refl
  no_other (x ∷ xs) s none unwanted = elim (cases_Bool (targets x.boundary)) [
    | inl hit ↦
        let apart : x.boundary ≢ s = λ e. both_ways (targets x.boundary) (ap targets e ∙ unwanted) hit in
        on_there s x xs apart ∙ no_other xs s (sym (off_tail x xs hit) ∙ none) unwanted
    | inr miss ↦ let e = sym (off_head x xs miss) ∙ none in absurd (cc)
  ]

  -- ---- what is spare

  pub spare_met : (sites : List Site) → has_met targets sites ≡ true → spare targets sites ≡ off_target targets sites
  spare_met sites met = ap (λ (b : Bool). cond b (off_target targets sites) (drop 1 sites)) met

  pub spare_unmet : (sites : List Site) → has_met targets sites ≡ false → spare targets sites ≡ drop 1 sites
  spare_unmet sites unmet = ap (λ (b : Bool). cond b (off_target targets sites) (drop 1 sites)) unmet

-- where all but the first are none, there is at most one
pub short_first : (sites : List Site) → drop 1 sites ≡ [] → length sites ≤ 1
short_first [] none = omega arith
short_first (x ∷ []) none = omega arith
short_first (x ∷ y ∷ ys) none = absurd (cc)
