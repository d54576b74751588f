-- What lists contain, element after element, and what tests of numbers say.
use Rattle.std.proofs.Common.{◌≡◌, ℕ, zero, suc, ◌<◌, ◌≤◌, ◌⊎◌, ◌↔◌, inl, inr, List, [], ◌∷◌, ◌++◌, Bool, true, false, cond, Contains, length, refl, sym, ap, subst, arith, ◌==◌, nat_lt}
use Rattle.std.proofs.lemmas.Bool.Decides.{nat_tests}
use Rattle.std.proofs.lemmas.List.Elements.{Contains-append_left, Contains-push, Contains-push_cases}
use Rattle.std.specs.List.{AllByRecursion}
use Rattle.std.specs.Prelude.{slice_index_or}

pub contains_none : {X : Type 0} (x : X) → Contains [] x → ⊥
contains_none x h = let l = h.1 in omega arith

-- the first element, or one of the others
contains_split : {X : Type 0} (x : X) (xs : List X) (y : X) (k : ℕ) → k < suc (length xs) → slice_index_or (x ∷ xs) k y ≡ y → (y ≡ x) ⊎ Contains xs y
contains_split x xs y zero lt e = inl (sym e)
contains_split x xs y (suc k) lt e = inr (k, omega arith, e)

pub contains_cons : {X : Type 0} (x : X) (xs : List X) (y : X) → Contains (x ∷ xs) y ↔ ((y ≡ x) ⊎ Contains xs y)
contains_cons x xs y = (
  λ has. contains_split x xs y (has.0) (has.1) (has.2),
  λ either. elim either [ inl e ↦ (zero, omega arith, sym e) | inr h ↦ (suc (h.0), (let l = h.1 in omega arith), h.2) ],
)

pub contains_last : {X : Type 0} (xs : List X) (x y : X) → Contains (xs ++ x ∷ []) y ↔ (Contains xs y ⊎ (y ≡ x))
contains_last xs x y = (
  λ has. elim (Contains-push_cases xs x y has) [ inl h ↦ inl h | inr e ↦ inr (sym e) ],
  λ either. elim either [
    | inl h ↦ Contains-append_left xs (x ∷ []) y h
    | inr e ↦ subst (λ z. Contains (xs ++ x ∷ []) z) (sym e) (Contains-push xs x)
  ],
)

pub holds_of : {X : Type 0} (P : X → Type 0) (xs : List X) → AllByRecursion P xs → (x : X) → Contains xs x → P x
holds_of P [] all x has = absurd (contains_none x has)
holds_of P (y ∷ ys) all x has = elim ((contains_cons y ys x).0 has) [
  | inl e ↦ subst P (sym e) (all.0)
  | inr h ↦ holds_of P ys (all.1) x h
]

-- ---- tests

pub cond_true : {X : Type 0} (b : Bool) (x y : X) → b ≡ true → cond b x y ≡ x
cond_true b x y e = ap (λ t. cond t x y) e

pub cond_false : {X : Type 0} (b : Bool) (x y : X) → b ≡ false → cond b x y ≡ y
cond_false b x y e = ap (λ t. cond t x y) e

pub same_number : (a b : ℕ) → a ≡ b → (a == b) ≡ true
same_number a b e = grind (arith, nat_tests)

pub apart_number : (a b : ℕ) → (b ≡ a → ⊥) → (a == b) ≡ false
apart_number a b ne = grind (arith, nat_tests)

pub number_is : (a b : ℕ) → (a == b) ≡ true → a ≡ b
number_is a b e = grind (arith, nat_tests)

pub below_cases : (a n : ℕ) → (a < n) ⊎ (n ≤ a)
below_cases a n = elim (nat_lt a n) as (λ b. nat_lt a n ≡ b → (a < n) ⊎ (n ≤ a)) [
  | true ↦ λ e. inl (grind (arith, nat_tests))
  | false ↦ λ e. inr (grind (arith, nat_tests))
] refl
