-- Blocks that are apart: some of them, and the words of the laws of dg_model for it.
use Rattle.std.proofs.Common.{◌≡◌, ◌<◌, ℕ, zero, suc, List, [], ◌∷◌, length, get_or, take, inl, inr, refl, sym, subst, arith}
use Rattle.std.specs.List.{Contains}
use Rattle.dg_hot.specs.Copied.{AreApart}
use Rattle.dg_model.proofs.NumberLists.{AreApart as AreNumbersApart, in_parts, in_take, nothing_in}

-- ---- the two words

pub numbers_apart : (xs : List ℕ) → AreApart xs → AreNumbersApart xs
numbers_apart [] apart = tt
numbers_apart (x ∷ xs) apart = (apart.0, numbers_apart xs apart.1)

pub blocks_are_apart : (xs : List ℕ) → AreNumbersApart xs → AreApart xs
blocks_are_apart [] apart = tt
blocks_are_apart (x ∷ xs) apart = (apart.0, blocks_are_apart xs apart.1)

-- ---- some of the blocks

pub apart_take : (k : ℕ) (xs : List ℕ) → AreApart xs → AreApart (take k xs)
apart_take zero xs apart = tt
apart_take (suc k) [] apart = tt
apart_take (suc k) (x ∷ xs) apart = (λ there. apart.0 (in_take k xs x there), apart_take k xs apart.1)

-- a place's number isn't among those before it
pub apart_at : (k : ℕ) (xs : List ℕ) (d : ℕ) → AreApart xs → k < length xs → Contains (take k xs) (get_or xs k d) → ⊥
apart_at zero xs d apart low there = nothing_in (get_or xs 0 d) there
apart_at (suc k) [] d apart low there = absurd (omega (arith, low))
apart_at (suc k) (x ∷ xs) d apart low there = elim (in_parts x (take k xs) (get_or xs k d) there) [
  | inl same ↦ apart.0 (subst (λ (z : ℕ). Contains xs z) (sym same) (k, omega (arith, low), refl_at xs k d (get_or xs k d) (omega (arith, low))))
  | inr more ↦ apart_at k xs d apart.1 (omega (arith, low)) more
]
  where
    refl_at : (xs : List ℕ) (k d e : ℕ) → k < length xs → get_or xs k e ≡ get_or xs k d
    refl_at [] k d e low = absurd (omega (arith, low))
    refl_at (y ∷ ys) zero d e low = refl
    refl_at (y ∷ ys) (suc k) d e low = refl_at ys k d e (omega (arith, low))
