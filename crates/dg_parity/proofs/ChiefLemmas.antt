-- Which disks are out, one after the other.
use Rattle.std.proofs.Common.{◌≡◌, ◌↔◌, ℕ, ◌+◌, ◌<◌, ◌≤◌, inl, inr, Bool, true, false, List, length, refl, sym, ap, subst, ◌∙◌, arith}
use Rattle.std.specs.Prelude.{IsTrue, not, slice_set, slice_index_or}
use Rattle.std.proofs.lemmas.Bool.{cases_eq, false≢true}
use Rattle.std.proofs.lemmas.List.{get_or-set_same, get_or-set_other}

not-in : (b : Bool) (P : Type 0) → (IsTrue b ↔ P) → (not b ≡ false) ↔ P
not-in true P h = (λ e. h.0 refl, λ p. refl)
not-in false P h = (λ e. absurd (false≢true (sym e)), λ p. absurd (false≢true (h.1 p)))

-- one disk more is out where it isn't in
pub outs-more : (P : ℕ → Type 0) (out : List Bool) (j : ℕ) (b : Bool) → j < length out → ((i : ℕ) → i < j → (slice_index_or out i false ≡ false) ↔ P i) → (IsTrue b ↔ P j)
    → (i : ℕ) → i < j + 1 → (slice_index_or (slice_set out j (not b)) i false ≡ false) ↔ P i
outs-more P out j b room before own i lt = elim (cases_eq i j) [
  | inl e ↦
      let at : not b ≡ slice_index_or (slice_set out j (not b)) i false =
      sym (ap (λ (k : ℕ). slice_index_or (slice_set out j (not b)) k false) e ∙ get_or-set_same out j (not b) false room) in
      subst (λ (v : Bool). (v ≡ false) ↔ P i) at (subst (λ (k : ℕ). (not b ≡ false) ↔ P k) (sym e) (not-in b (P j) own))
  | inr ne ↦
      let at : slice_index_or out i false ≡ slice_index_or (slice_set out j (not b)) i false = sym (get_or-set_other out j i (not b) false ne) in
      subst (λ (v : Bool). (v ≡ false) ↔ P i) at (before i (omega (arith, lt, ne)))
]

pub rest-more : (out : List Bool) (j : ℕ) (b : Bool) → ((i : ℕ) → j ≤ i → slice_index_or out i false ≡ false) → (i : ℕ) → j + 1 ≤ i → slice_index_or (slice_set out j b) i false ≡ false
rest-more out j b before i le = get_or-set_other out j i b false (λ e. absurd (omega (arith, le, e))) ∙ before i (omega arith)
