-- Ascending lists: two with the same numbers are one.
use Rattle.std.proofs.Common.{◌≡◌, ◌⊎◌, ◌<◌, ◌≤◌, ◌+◌, ◌∙◌, ℕ, zero, suc, Bool, true, false, cond, List, [], ◌∷◌, length, get_or, inl, inr, refl, sym, ap, subst, arith}
use Rattle.std.specs.Prelude.{filter}
use Rattle.std.specs.List.{Contains, range_with_len}
use Rattle.std.specs.List.Sorted.{IsStrictlyIncreasing}
use Rattle.std.proofs.lemmas.Bool.{false≢true}
use Rattle.std.proofs.lemmas.List.FromFn.{get_or-range_with_len, length-range_with_len}

-- ---- elements

nothing_in : (y : ℕ) → Contains [] y → ⊥
nothing_in y (k, low, at) = omega (arith, low)

head_in : (x : ℕ) (xs : List ℕ) → Contains (x ∷ xs) x
head_in x xs = (0, omega arith, refl)

tail_in : (x : ℕ) (xs : List ℕ) (y : ℕ) → Contains xs y → Contains (x ∷ xs) y
tail_in x xs y (k, low, at) = (suc k, omega (arith, low), at)

in_parts : (x : ℕ) (xs : List ℕ) (y : ℕ) → Contains (x ∷ xs) y → (x ≡ y) ⊎ Contains xs y
in_parts x xs y (zero, low, at) = inl at
in_parts x xs y (suc k, low, at) = inr (k, omega (arith, low), at)

-- ---- what a filter leaves

module _ (test : ℕ → Bool) where
  pub in_filter : (xs : List ℕ) (y : ℕ) → Contains (filter test xs) y → Contains xs y × (test y ≡ true)
  in_filter [] y there = absurd (nothing_in y there)
  in_filter (x ∷ xs) y there = by_test (test x) refl there (in_filter xs y)
    where
      by_test : (b : Bool) → test x ≡ b → Contains (cond b (x ∷ filter test xs) (filter test xs)) y → (Contains (filter test xs) y → Contains xs y × (test y ≡ true))
          → Contains (x ∷ xs) y × (test y ≡ true)
      by_test true e there later = elim (in_parts x (filter test xs) y there) [
        | inl same ↦ (subst (λ (z : ℕ). Contains (x ∷ xs) z) same (head_in x xs), sym (ap test same) ∙ e)
        | inr more ↦ let h = later more in (tail_in x xs y h.0, h.1)
      ]
      by_test false e there later = let h = later there in (tail_in x xs y h.0, h.1)

  pub filter_in : (xs : List ℕ) (y : ℕ) → Contains xs y → test y ≡ true → Contains (filter test xs) y
  filter_in [] y there e = absurd (nothing_in y there)
  filter_in (x ∷ xs) y there e = elim (in_parts x xs y there) [
    | inl same ↦ first (test x) (ap test same ∙ e) same
    | inr more ↦ later (test x) (filter_in xs y more e)
  ]
    where
      first : (b : Bool) → b ≡ true → x ≡ y → Contains (cond b (x ∷ filter test xs) (filter test xs)) y
      first true e same = subst (λ (z : ℕ). Contains (x ∷ filter test xs) z) same (head_in x (filter test xs))
      first false e same = absurd (false≢true e)

      later : (b : Bool) → Contains (filter test xs) y → Contains (cond b (x ∷ filter test xs) (filter test xs)) y
      later true more = tail_in x (filter test xs) y more
      later false more = more

-- ---- the same numbers

-- each number is at least n, and above those before it
abbrev From : ℕ → List ℕ → Type 0
From n [] = Unit {0}
From n (x ∷ xs) = (n ≤ x) × From (x + 1) xs

from_increasing : (n : ℕ) (xs : List ℕ) → IsStrictlyIncreasing xs → (0 < length xs → n ≤ get_or xs 0 0) → From n xs
from_increasing n [] up first = tt
from_increasing n (x ∷ xs) up first = (
  first (omega arith),
  from_increasing (x + 1) xs (λ k low.
      let e : suc k + 1 ≡ suc (k + 1) = omega arith in
      subst (λ (m : ℕ). get_or (x ∷ xs) (suc k) 0 < get_or (x ∷ xs) m 0) e (up (suc k) (omega (arith, low))))
      (λ some. let next : x < get_or xs 0 0 = up 0 (omega (arith, some)) in omega (arith, next)),
)

low_in : (n : ℕ) (xs : List ℕ) → From n xs → (b : ℕ) → Contains xs b → n ≤ b
low_in n [] up b there = absurd (nothing_in b there)
low_in n (x ∷ xs) up b there = elim (in_parts x xs b there) [
  | inl same ↦ omega (arith, up.0, same)
  | inr more ↦ let h = low_in (x + 1) xs up.1 b more in omega (arith, up.0, h)
]

-- the first numbers are one
same_first : (x y : ℕ) (xs ys : List ℕ) → From (x + 1) xs → From (y + 1) ys → Contains (y ∷ ys) x → Contains (x ∷ xs) y → x ≡ y
same_first x y xs ys up other there back = elim (in_parts y ys x there) [
  | inl same ↦ sym same
  | inr more ↦
      let above = low_in (y + 1) ys other x more in
      elim (in_parts x xs y back) [
        | inl same ↦ same
        | inr later ↦ let below = low_in (x + 1) xs up y later in absurd (omega (arith, above, below))
      ]
]

-- what isn't the first stands behind it
past_first : (x y : ℕ) (xs ys : List ℕ) → x ≡ y → From (x + 1) xs → (b : ℕ) → Contains xs b → Contains (y ∷ ys) b → Contains ys b
past_first x y xs ys same up b here there = elim (in_parts y ys b there) [
  | inl at ↦ let above = low_in (x + 1) xs up b here in absurd (omega (arith, above, same, at))
  | inr more ↦ more
]

same_from : (n m : ℕ) (xs ys : List ℕ) → From n xs → From m ys → ((b : ℕ) → Contains xs b → Contains ys b) → ((b : ℕ) → Contains ys b → Contains xs b) → xs ≡ ys
same_from n m [] [] up other there back = refl
same_from n m [] (y ∷ ys) up other there back = absurd (nothing_in y (back y (head_in y ys)))
same_from n m (x ∷ xs) [] up other there back = absurd (nothing_in x (there x (head_in x xs)))
same_from n m (x ∷ xs) (y ∷ ys) up other there back =
    let same = same_first x y xs ys up.1 other.1 (there x (head_in x xs)) (back y (head_in y ys)) in
    let rest =
    same_from (x + 1) (y + 1) xs ys up.1 other.1
    (λ b here. past_first x y xs ys same up.1 b here (there b (tail_in x xs b here)))
    (λ b here. past_first y x ys xs (sym same) other.1 b here (back b (tail_in y ys b here)))
    in
    ap (λ (z : ℕ). z ∷ xs) same ∙ ap (λ (zs : List ℕ). y ∷ zs) rest

pub same_numbers : (xs ys : List ℕ) → IsStrictlyIncreasing xs → IsStrictlyIncreasing ys → ((b : ℕ) → Contains xs b → Contains ys b) → ((b : ℕ) → Contains ys b → Contains xs b)
    → xs ≡ ys
same_numbers xs ys up other there back =
    same_from 0 0 xs ys (from_increasing 0 xs up (λ some. omega arith)) (from_increasing 0 ys other (λ some. omega arith)) there back

-- ---- ranges

pub range_ascends : (n : ℕ) → IsStrictlyIncreasing (range_with_len 0 n)
range_ascends n k low =
    let size = length-range_with_len 0 n in
    let here = get_or-range_with_len 0 n k 0 (omega (arith, low, size)) in
    let next = get_or-range_with_len 0 n (k + 1) 0 (omega (arith, low, size)) in
    omega (arith, here, next)
