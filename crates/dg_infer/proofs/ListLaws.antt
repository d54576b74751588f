-- What lists contain, and the fragments of a run.
use Rattle.std.proofs.Common.{◌≡◌, ℕ, zero, suc, ◌+◌, ◌<◌, ◌≤◌, ◌⊎◌, ◌↔◌, inl, inr, List, [], ◌∷◌, ◌++◌, true, false, Contains, length, refl, sym, subst, arith, nat_lt}
use Rattle.std.proofs.lemmas.Bool.Decides.{nat_tests}
use Rattle.std.proofs.lemmas.List.Elements.{Contains-append_left, Contains-push, Contains-push_cases}
use Rattle.std.specs.Prelude.{map, slice_index_or}
use Rattle.ufs_model.specs.Claims.{fragments_from, level_of}
use Rattle.ufs_model.specs.declared.claims.ClaimSource.{ClaimSource}
use Rattle.dg_infer.specs.Claimed.{IsClaimedBy, IsOnce}

-- a source that claims a fragment claims it at its level
pub claimed_at : (claimed : ClaimSource → List ℕ) (level fragment : ℕ) (source : ClaimSource) → level_of source ≡ level → Contains (claimed source) fragment → IsClaimedBy claimed level fragment
claimed_at claimed level fragment source is has = record { source = source; claim = has; is = is }

pub contains_none : {X : Type 0} (x : X) → Contains [] x → ⊥
contains_none x h = let l = h.1 in omega arith

contains_split : {X : Type 0} (x : X) (xs : List X) (y : X) (k : ℕ) → k < suc (length xs) → slice_index_or (x ∷ xs) k y ≡ y → (y ≡ x) ⊎ Contains xs y
contains_split x xs y zero lt e = inl (sym e)
contains_split x xs y (suc k) lt e = inr (k, omega arith, e)

pub contains_cons : {X : Type 0} (x : X) (xs : List X) (y : X) → Contains (x ∷ xs) y ↔ ((y ≡ x) ⊎ Contains xs y)
contains_cons x xs y = (
  λ has. contains_split x xs y (has.0) (has.1) (has.2),
  λ either. elim either [ inl e ↦ (zero, omega arith, sym e) | inr h ↦ (suc (h.0), (let l = h.1 in omega arith), h.2) ],
)

pub contains_last : {X : Type 0} (xs : List X) (x y : X) → Contains (xs ++ x ∷ []) y ↔ (Contains xs y ⊎ (y ≡ x))
contains_last xs x y = (
  λ has. elim (Contains-push_cases xs x y has) [ inl h ↦ inl h | inr e ↦ inr (sym e) ],
  λ either. elim either [
    | inl h ↦ Contains-append_left xs (x ∷ []) y h
    | inr e ↦ subst (λ z. Contains (xs ++ x ∷ []) z) (sym e) (Contains-push xs x)
  ],
)

pub once_last : {X : Type 0} (xs : List X) (x : X) → IsOnce xs → (Contains xs x → ⊥) → IsOnce (xs ++ x ∷ [])
once_last [] x once fresh = (contains_none x, tt)
once_last (y ∷ ys) x once fresh = (
  λ has. elim ((contains_last ys x y).0 has) [
    | inl h ↦ once.0 h
    | inr e ↦ fresh ((contains_cons y ys x).1 (inl (sym e)))
  ],
  once_last ys x (once.1) (λ h. fresh ((contains_cons y ys x).1 (inr h))),
)

pub contains_front : {X : Type 0} (xs ys : List X) (z : X) → Contains (xs ++ ys) z → Contains xs z ⊎ Contains ys z
contains_front [] ys z has = inr has
contains_front (x ∷ xs) ys z has = elim ((contains_cons x (xs ++ ys) z).0 has) [
  | inl e ↦ inl ((contains_cons x xs z).1 (inl e))
  | inr h ↦ elim (contains_front xs ys z h) [ inl f ↦ inl ((contains_cons x xs z).1 (inr f)) | inr b ↦ inr b ]
]

-- what a mapped list has is made of one of the list's
pub contains_map : {X Y : Type 0} (f : X → Y) (xs : List X) (y : Y) → Contains (map f xs) y → (x : X) × Contains xs x × (f x ≡ y)
contains_map f [] y has = absurd (contains_none y has)
contains_map f (x ∷ xs) y has = elim ((contains_cons (f x) (map f xs) y).0 has) [
  | inl e ↦ (x, (contains_cons x xs x).1 (inl refl), sym e)
  | inr h ↦ let rest = contains_map f xs y h in (rest.0, (contains_cons x xs (rest.0)).1 (inr (rest.1)), rest.2)
]

pub once_both : {X : Type 0} (xs ys : List X) → IsOnce xs → IsOnce ys → ((z : X) → Contains xs z → Contains ys z → ⊥) → IsOnce (xs ++ ys)
once_both [] ys one two apart = two
once_both (x ∷ xs) ys one two apart = (
  λ has. elim (contains_front xs ys x has) [ inl h ↦ one.0 h | inr h ↦ apart x ((contains_cons x xs x).1 (inl refl)) h ],
  once_both xs ys (one.1) two (λ z f b. apart z ((contains_cons x xs z).1 (inr f)) b),
)

pub below_cases : (a n : ℕ) → (a < n) ⊎ (n ≤ a)
below_cases a n = elim (nat_lt a n) as (λ b. nat_lt a n ≡ b → (a < n) ⊎ (n ≤ a)) [
  | true ↦ λ e. inl (grind (arith, nat_tests))
  | false ↦ λ e. inr (grind (arith, nat_tests))
] refl

-- ---- runs

pub contains_from : (k a f : ℕ) → Contains (fragments_from a k) f → (a ≤ f) × (f < a + k)
contains_from zero a f has = absurd (contains_none f has)
contains_from (suc k) a f has = elim ((contains_cons a (fragments_from (suc a) k) f).0 has) [
  | inl e ↦ (omega (arith, e), omega (arith, e))
  | inr h ↦ let r = contains_from k (suc a) f h in (omega (arith, r.0), omega (arith, r.1))
]
