-- Numbers and flags at the front of bytes.
use Rattle.std.proofs.Common.{◌≡◌, ◌<◌, ◌≤◌, ◌++◌, ◌^◌, ℕ, zero, suc, List, [], ◌∷◌, length, drop, get_or, refl, sym, ◌∙◌, ap, arith}
use Rattle.std.specs.Prelude.{Ok}
use Rattle.byteorder.specs.Endian.{little_bytes}
use Rattle.dg_save.specs.Parts.{FitsNumber, IsRead}

pub four_bytes : (a b c d : ℕ) → a < 256 → b < 256 → c < 256 → d < 256 → (i : ℕ) → get_or (a ∷ b ∷ c ∷ d ∷ []) i 0 < 256
four_bytes a b c d x y z w zero = x
four_bytes a b c d x y z w (suc zero) = y
four_bytes a b c d x y z w (suc (suc zero)) = z
four_bytes a b c d x y z w (suc (suc (suc zero))) = w
four_bytes a b c d x y z w (suc (suc (suc (suc i)))) = omega arith

front_four : (xs : List ℕ) → 4 ≤ length xs → xs ≡ (get_or xs 0 0 ∷ get_or xs 1 0 ∷ get_or xs 2 0 ∷ get_or xs 3 0 ∷ []) ++ drop 4 xs
front_four [] h = absurd (omega (arith, h))
front_four (a ∷ []) h = absurd (omega (arith, h))
front_four (a ∷ b ∷ []) h = absurd (omega (arith, h))
front_four (a ∷ b ∷ c ∷ []) h = absurd (omega (arith, h))
front_four (a ∷ b ∷ c ∷ d ∷ xs) h = refl

pub number_read : (old new : List ℕ) (n : ℕ) → 4 ≤ length old → new ≡ drop 4 old
    → little_bytes 4 n ≡ get_or old 0 0 ∷ get_or old 1 0 ∷ get_or old 2 0 ∷ get_or old 3 0 ∷ [] → n < 2 ^ 32
    → IsRead {R = ℕ} {X = ℕ} (λ x. x) FitsNumber (little_bytes 4) old new (Ok n)
number_read old new n long after bytes small = record {
  fits = small;
  read = front_four old long ∙ ap (λ (xs : List ℕ). xs ++ drop 4 old) (sym bytes) ∙ ap (λ (xs : List ℕ). little_bytes 4 n ++ xs) (sym after);
  malformed = λ e x rest fits says. cc;
}
