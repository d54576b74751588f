-- A test of all numbers below another.
use Rattle.std.proofs.Common.{◌≡◌, ℕ, zero, suc, ◌<◌, inl, inr, Bool, true, false, ◌&&◌, arith, refl, subst}
use Rattle.std.proofs.lemmas.Bool.{cases_lt}
use Rattle.ufs_model.specs.Numbers.{all_below}

false_before : (a b : Bool) → a ≡ false → (a && b) ≡ false
false_before a b e = rw e refl

false_after : (a b : Bool) → b ≡ false → (a && b) ≡ false
false_after true b e = e
false_after false b e = refl

pub all_below_fails : (test : ℕ → Bool) (n i : ℕ) → test i ≡ false → i < n → all_below test n ≡ false
all_below_fails test zero i fails low = absurd (omega arith)
all_below_fails test (suc n) i fails low =
    elim (cases_lt i n) [
      | inl lt ↦ false_before (all_below test n) (test n) (all_below_fails test n i fails lt)
      | inr ge ↦ let e : i ≡ n = omega arith in false_after (all_below test n) (test n) (subst (λ (k : ℕ). test k ≡ false) e fails)
    ]
