-- The numbers of which something holds, one after the other.
use Rattle.std.proofs.Common.{◌≡◌, ◌↔◌, ℕ, zero, suc, ◌+◌, ◌<◌, inl, inr, Bool, true, false, List, [], ◌∷◌, ◌++◌, Contains, AllPairs, get_or, length, refl, sym, ap, subst, add-one, arith}
use Rattle.std.proofs.lemmas.Bool.{cases_order}
use Rattle.std.proofs.lemmas.List.Elements.{Contains-append_left, Contains-get_or, Contains-push, Contains-push_cases}
use Rattle.std.proofs.lemmas.List.Quantifiers.{all_pairs_push}
use Rattle.std.specs.Bool.{Decides}
use Rattle.ufs_model.specs.Audits.{AreAll}
use Rattle.ufs_check.specs.Notes.{AreAllBelow, IsLeast, first_in, noted}

-- an element by its place
at_place : (xs : List ℕ) (k d : ℕ) → k < length xs → Contains xs (get_or xs k d)
at_place xs k d lt = Contains-get_or xs k d lt

-- none of them is there at first
pub all_none : (holds : ℕ → Type 0) (bound : ℕ) → ((m : ℕ) → m < bound → holds m → ⊥) → AreAllBelow holds bound []
all_none holds bound none = record {
  each = λ m. (λ has. let lt = has.1 in absurd (omega arith), λ is. absurd (none m (is.0) (is.1)));
  ascend = λ i j d before lt. absurd (omega arith);
}

pub all_empty : (holds : ℕ → Type 0) (bound : ℕ) (numbers : List ℕ) → numbers ≡ [] → ((m : ℕ) → m < bound → holds m → ⊥) → AreAllBelow holds bound numbers
all_empty holds bound numbers empty none = subst (AreAllBelow holds bound) (sym empty) (all_none holds bound none)

-- one more number at the top, of which it holds
all_more : (holds : ℕ → Type 0) (n : ℕ) (old : List ℕ) → holds n → AreAllBelow holds n old → AreAllBelow holds (suc n) (old ++ n ∷ [])
all_more holds n old here so_far = record {
  each = λ m. (
    λ has. elim (Contains-push_cases old n m has) [
      | inl before ↦ let is = (so_far.each m).0 before in let lt = is.0 in (omega arith, is.1)
      | inr same ↦ (omega arith, subst holds same here)
    ],
    λ is. elim (cases_order m n) [
      | inl same ↦ rw same (Contains-push old n)
      | inr other ↦ elim other [
        | inl less ↦ Contains-append_left old (n ∷ []) m ((so_far.each m).1 (less, is.1))
        | inr greater ↦ let lt = is.0 in absurd (omega arith)
      ]
    ],
  );
  ascend = all_pairs_push ◌<◌ old n so_far.ascend (λ k d lt. ((so_far.each (get_or old k d)).0 (at_place old k d lt)).0);
}

-- one of which it doesn't
all_same : (holds : ℕ → Type 0) (n : ℕ) (numbers : List ℕ) → (holds n → ⊥) → AreAllBelow holds n numbers → AreAllBelow holds (suc n) numbers
all_same holds n numbers none so_far = record {
  each = λ m. (
    λ has. let is = (so_far.each m).0 has in let lt = is.0 in (omega arith, is.1),
    λ is. elim (cases_order m n) [
      | inl same ↦ absurd (none (subst holds same (is.1)))
      | inr other ↦ elim other [
        | inl less ↦ (so_far.each m).1 (less, is.1)
        | inr greater ↦ let lt = is.0 in absurd (omega arith)
      ]
    ],
  );
  ascend = so_far.ascend;
}

append_none : (xs : List ℕ) → xs ++ [] ≡ xs
append_none [] = refl
append_none (x ∷ xs) = ap (λ l. x ∷ l) (append_none xs)

-- a number that is noted
all_by : (holds : ℕ → Type 0) (n : ℕ) (old : List ℕ) (b : Bool) → Decides b (holds n) → AreAllBelow holds n old → AreAllBelow holds (suc n) (noted old n b)
all_by holds n old true decides so_far = all_more holds n old (decides.0 refl) so_far
all_by holds n old false decides so_far = rw (append_none old) (all_same holds n old (λ is. let no : false ≡ true = decides.1 is in cc) so_far)

pub all_noted : (holds : ℕ → Type 0) (n : ℕ) (old new : List ℕ) (b : Bool) → new ≡ noted old n b → Decides b (holds n) → AreAllBelow holds n old
    → AreAllBelow holds (n + 1) new
all_noted holds n old new b is decides so_far = rw (is, add-one) (all_by holds n old b decides so_far)

-- a number that is passed
pub all_passed : (holds : ℕ → Type 0) (n : ℕ) (numbers : List ℕ) → (holds n → ⊥) → AreAllBelow holds n numbers → AreAllBelow holds (n + 1) numbers
all_passed holds n numbers none so_far = rw add-one (all_same holds n numbers none so_far)

-- nothing holds from the bound on
pub all_all : (holds : ℕ → Type 0) (bound : ℕ) (numbers : List ℕ) → ((m : ℕ) → holds m → m < bound) → AreAllBelow holds bound numbers → AreAll holds numbers
all_all holds bound numbers within so_far = record {
  each = λ m. (λ has. ((so_far.each m).0 has).1, λ is. (so_far.each m).1 (within m is, is));
  ascend = so_far.ascend;
}

-- ---- the first of them

-- none of them is below the first
before_head : (n : ℕ) (numbers : List ℕ) (m : ℕ) → AllPairs ◌<◌ (n ∷ numbers) → Contains (n ∷ numbers) m → m < n → ⊥
before_head n numbers m ordered (zero, lt, here) less = omega arith
before_head n numbers m ordered (suc k, lt, here) less =
    let before : n < m = subst (λ y. n < y) here (ordered 0 (suc k) m (omega arith) lt) in omega arith

-- the first of all is the least
pub least_of : (holds : ℕ → Type 0) (numbers : List ℕ) → AreAll holds numbers → IsLeast holds (first_in numbers)
least_of holds [] all = λ m is. let h = (all.each m).1 is in let lt = h.1 in absurd (omega arith)
least_of holds (n ∷ numbers) all = (
  (all.each n).0 (0, omega arith, refl),
  λ m less is. before_head n numbers m all.ascend ((all.each m).1 is) less,
)
