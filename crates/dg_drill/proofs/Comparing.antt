-- What a comparer has found is whether it was handed the bytes of the file.
use Rattle.std.proofs.Common.{◌≡◌, ◌<◌, ◌≤◌, ◌+◌, ◌==◌, ◌&&◌, ℕ, zero, suc, Bool, true, false, List, [], ◌∷◌, refl, sym, ◌∙◌, ap, inl, inr, arith}
use Rattle.std.specs.Prelude.{map}
use Rattle.std.specs.Cmp.Lexicographic.{pointwise}
use Rattle.std.specs.List.{range_with_len}
use Rattle.std.proofs.lemmas.Bool.{cases_Bool, lt-ltb, le-ltb, ne_eqb, eq-eqb}
use Rattle.dg_drill.specs.Comparisons.{fresh, is_whole, next_byte, next_bytes}
use Rattle.ufs_drill.specs.Items.{byte_of, bytes_of}
use Rattle.dg_drill.specs.declared.comparers.Comparer.{Comparer}

abbrev cursor : ℕ → ℕ → ℕ → Bool → Comparer
cursor k size at same = record { k = k; size = size; at = at; same = same }

-- once a byte was another, it isn't the file
never : (k size at : ℕ) (bytes : List ℕ) → is_whole (next_bytes (cursor k size at false) bytes) ≡ false
never k size at [] = refl
never k size at (byte ∷ bytes) = never k size at bytes

past : (k size at byte : ℕ) → size ≤ at → next_byte (cursor k size at true) byte ≡ cursor k size at false
past k size at byte high = rw (le-ltb at size high) refl

other : (k size at byte : ℕ) → at < size → (byte == byte_of k at) ≡ false → next_byte (cursor k size at true) byte ≡ cursor k size at false
other k size at byte low is = rw (lt-ltb at size low, is) refl

right : (k size at byte : ℕ) → at < size → (byte == byte_of k at) ≡ true → next_byte (cursor k size at true) byte ≡ cursor k size (at + 1) true
right k size at byte low is = rw (lt-ltb at size low, is) refl

whole_from : (k left at size : ℕ) (bytes : List ℕ) → size ≡ at + left
    → is_whole (next_bytes (cursor k size at true) bytes) ≡ pointwise ◌==◌ bytes (map (byte_of k) (range_with_len at left))
whole_from k zero at size [] is = eq-eqb at size (omega (arith, is))
whole_from k (suc left) at size [] is = ne_eqb at size (λ e. omega (arith, is, e))
whole_from k zero at size (byte ∷ bytes) is =
    ap (λ (s : Comparer). is_whole (next_bytes s bytes)) (past k size at byte (omega (arith, is))) ∙ never k size at bytes
whole_from k (suc left) at size (byte ∷ bytes) is = elim (cases_Bool (byte == byte_of k at)) [
  | inl same ↦
      ap (λ (s : Comparer). is_whole (next_bytes s bytes)) (right k size at byte (omega (arith, is)) same)
      ∙ whole_from k left (at + 1) size bytes (omega (arith, is))
      ∙ ap (λ (b : Bool). b && pointwise ◌==◌ bytes (map (byte_of k) (range_with_len (at + 1) left))) (sym same)
  | inr differs ↦
      ap (λ (s : Comparer). is_whole (next_bytes s bytes)) (other k size at byte (omega (arith, is)) differs)
      ∙ never k size at bytes
      ∙ ap (λ (b : Bool). b && pointwise ◌==◌ bytes (map (byte_of k) (range_with_len (at + 1) left))) (sym differs)
]

pub whole_is : (k size : ℕ) (bytes : List ℕ) → is_whole (next_bytes (fresh k size) bytes) ≡ pointwise ◌==◌ bytes (bytes_of k size)
whole_is k size bytes = whole_from k size 0 size bytes (omega arith)
