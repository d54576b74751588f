-- Lists of numbers: which are apart, and what a filter leaves.
use Rattle.std.proofs.Common.{◌≡◌, ◌⊎◌, ◌<◌, ◌≤◌, ◌+◌, ℕ, zero, suc, Bool, true, false, cond, List, [], ◌∷◌, take, inl, inr, refl, sym, ◌∙◌, ap, subst, arith}
use Rattle.std.specs.Prelude.{filter}
use Rattle.std.specs.List.{Contains, range_with_len}
use Rattle.std.proofs.lemmas.Bool.{cases_eq}

-- no number stands twice
abbrev pub AreApart : List ℕ → Type 0
AreApart [] = Unit {0}
AreApart (b ∷ more) = (Contains more b → ⊥) × AreApart more

-- ---- elements

pub head_in : (x : ℕ) (xs : List ℕ) → Contains (x ∷ xs) x
head_in x xs = (0, omega arith, refl)

pub tail_in : (x : ℕ) (xs : List ℕ) (y : ℕ) → Contains xs y → Contains (x ∷ xs) y
tail_in x xs y (k, low, at) = (suc k, omega (arith, low), at)

pub nothing_in : (y : ℕ) → Contains [] y → ⊥
nothing_in y (k, low, at) = omega (arith, low)

pub in_parts : (x : ℕ) (xs : List ℕ) (y : ℕ) → Contains (x ∷ xs) y → (x ≡ y) ⊎ Contains xs y
in_parts x xs y (zero, low, at) = inl at
in_parts x xs y (suc k, low, at) = inr (k, omega (arith, low), at)

pub in_or_out : (xs : List ℕ) (y : ℕ) → Contains xs y ⊎ (Contains xs y → ⊥)
in_or_out [] y = inr (nothing_in y)
in_or_out (x ∷ xs) y = elim (cases_eq x y) [
  | inl same ↦ inl (subst (λ (z : ℕ). Contains (x ∷ xs) z) same (head_in x xs))
  | inr other ↦ elim (in_or_out xs y) [
    | inl there ↦ inl (tail_in x xs y there)
    | inr none ↦ inr (λ h. elim (in_parts x xs y h) [ inl same ↦ other same | inr there ↦ none there ])
  ]
]

pub in_take : (k : ℕ) (xs : List ℕ) (y : ℕ) → Contains (take k xs) y → Contains xs y
in_take zero xs y there = absurd (nothing_in y there)
in_take (suc k) [] y there = there
in_take (suc k) (x ∷ xs) y there = elim (in_parts x (take k xs) y there) [
  | inl same ↦ subst (λ (z : ℕ). Contains (x ∷ xs) z) same (head_in x xs)
  | inr more ↦ tail_in x xs y (in_take k xs y more)
]

-- ---- filters

filter_by : (p : ℕ → Bool) (x : ℕ) (xs : List ℕ) (t : Bool) → p x ≡ t → filter p (x ∷ xs) ≡ cond t (x ∷ filter p xs) (filter p xs)
filter_by p x xs t e = ap (λ (u : Bool). cond u (x ∷ filter p xs) (filter p xs)) e

pub filter_yes : (p : ℕ → Bool) (x : ℕ) (xs : List ℕ) → p x ≡ true → filter p (x ∷ xs) ≡ x ∷ filter p xs
filter_yes p x xs e = filter_by p x xs true e

pub filter_no : (p : ℕ → Bool) (x : ℕ) (xs : List ℕ) → p x ≡ false → filter p (x ∷ xs) ≡ filter p xs
filter_no p x xs e = filter_by p x xs false e

pub in_filter : (p : ℕ → Bool) (xs : List ℕ) (y : ℕ) → Contains (filter p xs) y → Contains xs y × (p y ≡ true)
in_filter p [] y there = absurd (nothing_in y there)
in_filter p (x ∷ xs) y there = by_test (p x) refl (in_filter p xs y)
  where
    by_test : (t : Bool) → p x ≡ t → (Contains (filter p xs) y → Contains xs y × (p y ≡ true)) → Contains (x ∷ xs) y × (p y ≡ true)
    by_test true e later = elim (in_parts x (filter p xs) y (subst (λ (zs : List ℕ). Contains zs y) (filter_yes p x xs e) there)) [
      | inl same ↦ (subst (λ (z : ℕ). Contains (x ∷ xs) z) same (head_in x xs), sym (ap p same) ∙ e)
      | inr more ↦ let h = later more in (tail_in x xs y h.0, h.1)
    ]
    by_test false e later =
        let h = later (subst (λ (zs : List ℕ). Contains zs y) (filter_no p x xs e) there) in
        (tail_in x xs y h.0, h.1)

pub filter_in : (p : ℕ → Bool) (xs : List ℕ) (y : ℕ) → Contains xs y → p y ≡ true → Contains (filter p xs) y
filter_in p [] y there e = absurd (nothing_in y there)
filter_in p (x ∷ xs) y there e = elim (in_parts x xs y there) [
  | inl same ↦ subst (λ (zs : List ℕ). Contains zs y) (sym (filter_yes p x xs (ap p same ∙ e))) (subst (λ (z : ℕ). Contains (x ∷ filter p xs) z) same (head_in x (filter p xs)))
  | inr more ↦ by_test (p x) refl (filter_in p xs y more e)
]
  where
    by_test : (t : Bool) → p x ≡ t → Contains (filter p xs) y → Contains (filter p (x ∷ xs)) y
    by_test true pass more = subst (λ (zs : List ℕ). Contains zs y) (sym (filter_yes p x xs pass)) (tail_in x (filter p xs) y more)
    by_test false pass more = subst (λ (zs : List ℕ). Contains zs y) (sym (filter_no p x xs pass)) more

pub apart_filter : (p : ℕ → Bool) (xs : List ℕ) → AreApart xs → AreApart (filter p xs)
apart_filter p [] apart = tt
apart_filter p (x ∷ xs) apart = by_test (p x) refl (apart_filter p xs apart.1)
  where
    by_test : (t : Bool) → p x ≡ t → AreApart (filter p xs) → AreApart (filter p (x ∷ xs))
    by_test true e later = subst AreApart (sym (filter_yes p x xs e)) (λ there. apart.0 (in_filter p xs x there).0, later)
    by_test false e later = subst AreApart (sym (filter_no p x xs e)) later

-- ---- ranges

pub range_from : (a n y : ℕ) → Contains (range_with_len a n) y → a ≤ y
range_from a zero y there = absurd (nothing_in y there)
range_from a (suc n) y there = elim (in_parts a (range_with_len (a + 1) n) y there) [
  | inl same ↦ omega (arith, same)
  | inr more ↦ let h = range_from (a + 1) n y more in omega (arith, h)
]

pub apart_range : (a n : ℕ) → AreApart (range_with_len a n)
apart_range a zero = tt
apart_range a (suc n) = (λ there. let h = range_from (a + 1) n a there in absurd (omega (arith, h)), apart_range (a + 1) n)

pub in_range : (a n y : ℕ) → a ≤ y → y < a + n → Contains (range_with_len a n) y
in_range a zero y from before = absurd (omega (arith, from, before))
in_range a (suc n) y from before = elim (cases_eq a y) [
  | inl same ↦ subst (λ (z : ℕ). Contains (a ∷ range_with_len (a + 1) n) z) same (head_in a (range_with_len (a + 1) n))
  | inr other ↦ tail_in a (range_with_len (a + 1) n) y (in_range (a + 1) n y (omega (arith, from, other)) (omega (arith, before)))
]
