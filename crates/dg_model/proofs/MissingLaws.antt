-- What a missing placement is, and what stands where none is missing.
use Rattle.std.proofs.Common.{◌≡◌, ◌<◌, ◌≤◌, ◌&&◌, ℕ, Bool, true, false, not, List, [], ◌∷◌, inl, inr, refl, sym, ◌∙◌, ap, subst, arith}
use Rattle.std.proofs.lemmas.Bool.{both_ways, cases_Bool, cases_lt, false≢true, lt-ltb, le-ltb, ltb-false}
use Rattle.dg_model.specs.Moves.{AreTargets, IsAtTargets, IsTidy, count_upto, has_met, is_missing, missing_in, sum_upto}
use Rattle.dg_model.specs.Sites.{has_site}
use Rattle.dg_model.specs.Tables.{Table, count_on, is_on, sites_in}
use Rattle.dg_model.specs.declared.shapes.Shape.{Shape}
use Rattle.dg_model.specs.declared.sites.Site.{Site}
use Rattle.dg_model.proofs.RoomLaws.{met_from, missing_from}
use Rattle.dg_model.proofs.SpareLaws.{no_other, spare_met, unmet_none}
use Rattle.dg_model.proofs.SumLaws.{count_pos, count_same, sum_same, term_le}

pub missing_wanted : (targets : ℕ → ℕ → Bool) (table : Table) (b t : ℕ) → is_missing targets table b t ≡ true → targets b t ≡ true
missing_wanted targets table b t is = elim (cases_Bool (targets b t)) [
  | inl hit ↦ hit
  | inr miss ↦ absurd (false≢true (sym (ap (λ (v : Bool). v && not (is_on table b t)) miss) ∙ is))
]

pub missing_none : (targets : ℕ → ℕ → Bool) (table : Table) (b t : ℕ) → is_missing targets table b t ≡ true → count_on t (sites_in table b) ≡ 0
missing_none targets table b t is =
    let wanted = missing_wanted targets table b t is in
    let off : not (is_on table b t) ≡ true = sym (ap (λ (v : Bool). v && not (is_on table b t)) wanted) ∙ is in
    elim (cases_Bool (is_on table b t)) [
      | inl on ↦ absurd (false≢true (sym (ap not on) ∙ off))
      | inr none ↦ let e : count_on t (sites_in table b) ≤ 0 = ltb-false 0 (count_on t (sites_in table b)) none in omega (arith, e)
    ]

pub not_missing : (targets : ℕ → ℕ → Bool) (table : Table) (b t : ℕ) → 0 < count_on t (sites_in table b) → is_missing targets table b t ≡ false
not_missing targets table b t some = elim (cases_Bool (is_missing targets table b t)) [
  | inl hit ↦ absurd (omega (arith, missing_none targets table b t hit, some))
  | inr miss ↦ miss
]

some_from : (t : ℕ) (sites : List Site) → 0 < count_on t sites → has_site sites ≡ true
some_from t [] some = absurd (omega arith)
some_from t (x ∷ xs) some = refl

pub none_at_all : (targets : ℕ → ℕ → Bool) (table : Table) (b t : ℕ) → missing_in targets table ≡ 0 → b < table.shape.n → t < table.shape.b → is_missing targets table b t ≡ false
none_at_all targets table b t none below within = elim (cases_Bool (is_missing targets table b t)) [
  | inl hit ↦
      absurd (omega (
        arith,
        none,
        term_le (λ c. count_upto table.shape.b (is_missing targets table c)) table.shape.n b below,
        count_pos table.shape.b t (is_missing targets table b) within hit,
      ))
  | inr miss ↦ miss
]

-- each block stands on just its targets
pub placed_from : (targets : ℕ → ℕ → Bool) (table : Table) → AreTargets targets table → IsTidy targets table → missing_in targets table ≡ 0 → IsAtTargets targets table
placed_from targets table are tidy none b t below within = elim (cases_Bool (targets b t)) [
  | inl hit ↦ lt-ltb 0 (count_on t (sites_in table b)) (met_from targets table b t hit (none_at_all targets table b t none below within)) ∙ sym hit
  | inr miss ↦ le-ltb 0 (count_on t (sites_in table b)) (elsewhere miss) ∙ sym miss
]
  where
    elsewhere : targets b t ≡ false → count_on t (sites_in table b) ≤ 0
    elsewhere miss = elim (cases_lt 0 (count_on t (sites_in table b))) [
      | inr few ↦ few
      | inl some ↦ elim (cases_Bool (has_met (targets b) (sites_in table b))) [
        | inl met ↦ omega (arith, no_other (targets b) (sites_in table b) t (sym (spare_met (targets b) (sites_in table b) met) ∙ tidy b below) miss)
        | inr unmet ↦
            let other = are.some b below (some_from t (sites_in table b) some) in
            absurd (both_ways (is_missing targets table b other.0) (none_at_all targets table b other.0 none below other.1) (missing_from targets table b other.0 other.2 (unmet_none (targets b) (sites_in table b) other.0 unmet other.2)))
      ]
    ]

-- targets of one table are those of another with the same numbers and the same written blocks
pub targets_stay : (targets : ℕ → ℕ → Bool) (old new : Table) → new.shape ≡ old.shape → ((b : ℕ) → has_site (sites_in new b) ≡ has_site (sites_in old b))
    → AreTargets targets old → AreTargets targets new
targets_stay targets old new shape written are = record {
  some = λ b within has.
      let t = are.some b (subst (λ (s : Shape). b < s.n) shape within) (sym (written b) ∙ has) in
      (t.0, subst (λ (s : Shape). t.0 < s.b) (sym shape) t.1, t.2);
  written = λ b t wanted. written b ∙ are.written b t wanted;
  within = λ b t wanted. subst (λ (s : Shape). t < s.b) (sym shape) (are.within b t wanted);
  most = λ t within. subst (λ (s : Shape). count_upto s.n (λ b. targets b t) ≤ s.k) (sym shape) (are.most t (subst (λ (s : Shape). t < s.b) shape within));
}

-- the same placements are missing
pub missing_stay : (targets : ℕ → ℕ → Bool) (old new : Table) → new.shape ≡ old.shape → ((b t : ℕ) → is_missing targets new b t ≡ is_missing targets old b t)
    → missing_in targets new ≡ missing_in targets old
missing_stay targets old new shape same =
    ap (λ (s : Shape). sum_upto s.n (λ c. count_upto s.b (is_missing targets new c))) shape
    ∙ sum_same (λ c. count_upto old.shape.b (is_missing targets new c)) (λ c. count_upto old.shape.b (is_missing targets old c)) old.shape.n
    (λ c low. count_same old.shape.b (is_missing targets old c) (is_missing targets new c) (same c))
