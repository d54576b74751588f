-- Tests of all numbers below one.
use Rattle.std.proofs.Common.{◌≡◌, ℕ, zero, suc, ◌<◌, ◌&&◌, Bool, true, false, refl, sym, arith, inl, inr}
use Rattle.std.proofs.lemmas.Bool.{and_parts, cases_eq, false≢true}
use Rattle.ufs_model.specs.Numbers.{all_below}

and_false : (a b : Bool) → b ≡ false → (a && b) ≡ false
and_false true b e = e
and_false false b e = refl

first_false : (a b : Bool) → a ≡ false → (a && b) ≡ false
first_false true b e = absurd (false≢true (sym e))
first_false false b e = refl

same_or_below : (i n : ℕ) → i < suc n → (i ≡ n → ⊥) → i < n
same_or_below i n h differ = omega arith

-- one that fails makes the whole fail
pub false_at : (test : ℕ → Bool) (n i : ℕ) → i < n → test i ≡ false → all_below test n ≡ false
false_at test zero i low e = absurd (omega arith)
false_at test (suc n) i low e =
    elim (cases_eq i n) as (λ _. all_below test (suc n) ≡ false) [
      | inl same ↦ and_false (all_below test n) (test n) (rw (← same) e)
      | inr differ ↦ first_false (all_below test n) (test n) (false_at test n i (same_or_below i n low differ) e)
    ]

-- tests that pass where others do
pub below_mono : (one other : ℕ → Bool) (n : ℕ) → ((i : ℕ) → one i ≡ true → other i ≡ true) → all_below one n ≡ true → all_below other n ≡ true
below_mono one other zero h all = refl
below_mono one other (suc n) h all =
    let parts = and_parts (all_below one n) (one n) all in
    rw (below_mono one other n h (parts.0), h n (parts.1)) refl
