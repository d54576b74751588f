-- Where the sites of a block are, against a list of boundaries.
use Rattle.std.proofs.Common.{◌≡◌, ◌<◌, ◌≤◌, ◌+◌, ◌==◌, ◌%◌, ◌↔◌, ◌++◌, ℕ, suc, Bool, true, false, cond, List, [], ◌∷◌, length, get_or, map, take, inl, inr, refl, sym, ◌∙◌, ap, subst, arith}
use Rattle.std.specs.Prelude.{Option, IsTrue, option_to_list}
use Rattle.std.specs.List.{list_any, range_with_len}
use Rattle.std.proofs.lemmas.Bool.{cases_eq, cases_lt, eqb-true, false≢true, lt-ltb, ltb-true, or_cases}
use Rattle.std.proofs.lemmas.List.{get_or-take, get_or_default, length-take}
use Rattle.std.proofs.lemmas.List.Folds.{list_any_at}
use Rattle.std.proofs.lemmas.List.FromFn.{fill_by_all}
use Rattle.std.proofs.lemmas.List.Sums.{get_or-le-sum_by}
use Rattle.dg_model.proofs.SiteLists.{apart_test, count_on-cons, one_if, same_test, zero_if}
use Rattle.dg_model.specs.Tables.{count_on, stands_on}
use Rattle.dg_model.specs.declared.sites.Site.{Site}
use Rattle.dg_placed.specs.Standing.{StandOnJust}

-- a fact of each of the first elements, and of the next one
pub more_with : {X : Type 0} (P : X → Type 0) (xs : List X) (i : ℕ) (e : X) → i < length xs → ((k : ℕ) (d : X) → k < i → P (get_or xs k d)) → P (get_or xs i e)
    → (k : ℕ) (d : X) → k < i + 1 → P (get_or xs k d)
more_with P xs i e within below here k d low = elim (cases_lt k i) [
  | inl lt ↦ below k d lt
  | inr ge ↦
      let at : k ≡ i = omega (arith, low, ge) in
      subst (λ (n : ℕ). P (get_or xs n d)) (sym at) (subst P (get_or_default xs i e d within) here)
]

-- ---- a number in a list

abbrev pub any_at : ℕ → List ℕ → Bool
any_at s xs = list_any (λ t. t == s) xs

-- where a number stands that is in a list
pub any_place : (s : ℕ) (xs : List ℕ) → any_at s xs ≡ true → (k : ℕ) × (k < length xs) × (get_or xs k 0 ≡ s)
any_place s [] h = absurd (false≢true h)
any_place s (x ∷ xs) h = elim (or_cases (x == s) (any_at s xs) h) [
  | inl here ↦ (0, omega arith, eqb-true x s here)
  | inr later ↦ let found = any_place s xs later in (suc found.0, omega (arith, found.1), found.2)
]

pub place_any : (xs : List ℕ) (k : ℕ) → k < length xs → any_at (get_or xs k 0) xs ≡ true
place_any xs k within = list_any_at (λ t. t == get_or xs k 0) xs k 0 within (same_test (get_or xs k 0) (get_or xs k 0) refl)

-- ---- a site on a boundary

count_place : (s : ℕ) (xs : List Site) → 0 < count_on s xs → (k : ℕ) × (k < length xs) × ((d : Site) → (get_or xs k d).boundary ≡ s)
count_place s [] some = absurd (omega (arith, some))
count_place s (x ∷ xs) some = elim (cases_eq x.boundary s) [
  | inl at ↦ (0, omega arith, λ d. at)
  | inr off ↦
      let found = count_place s xs (omega (arith, some, count_on-cons s x xs, zero_if (x.boundary == s) (apart_test x.boundary s off))) in
      (suc found.0, omega (arith, found.1), found.2)
]

pub stands_place : (s : ℕ) (xs : List Site) → stands_on s xs ≡ true → (k : ℕ) × (k < length xs) × ((d : Site) → (get_or xs k d).boundary ≡ s)
stands_place s xs h = count_place s xs (ltb-true 0 (count_on s xs) h)

pub place_stands : (s : ℕ) (xs : List Site) (k : ℕ) (d : Site) → k < length xs → (get_or xs k d).boundary ≡ s → stands_on s xs ≡ true
place_stands s xs k d within at =
    lt-ltb 0 (count_on s xs)
    (omega (
      arith,
      get_or-le-sum_by (λ (y : Site). cond (y.boundary == s) 1 0) xs k d within,
      one_if ((get_or xs k d).boundary == s) (same_test (get_or xs k d).boundary s at),
    ))

-- ---- each boundary has a site

abbrev pub AllHave : List Site → List ℕ → Type 0
AllHave sites boundaries = (s : ℕ) → any_at s boundaries ≡ true → stands_on s sites ≡ true

pub lacks_one : (sites : List Site) (boundaries : List ℕ) (k s : ℕ) → k < length boundaries → s ≡ get_or boundaries k 0 → stands_on s sites ≡ false → AllHave sites boundaries → ⊥
lacks_one sites boundaries k s within at off all =
    false≢true (sym off ∙ all s (ap (λ (t : ℕ). any_at t boundaries) at ∙ place_any boundaries k within))

pub all_have : (sites : List Site) (boundaries : List ℕ) (n : ℕ) → length boundaries ≤ n → ((k : ℕ) → k < n → stands_on (get_or boundaries k 0) sites ≡ true) → AllHave sites boundaries
all_have sites boundaries n past below s there =
    let found = any_place s boundaries there in
    subst (λ (t : ℕ). stands_on t sites ≡ true) found.2 (below found.0 (omega (arith, past, found.1)))

-- ---- each site is on one of the boundaries

abbrev pub AllOnThese : List Site → List ℕ → Type 0
AllOnThese sites boundaries = (s : ℕ) → stands_on s sites ≡ true → any_at s boundaries ≡ true

pub strays_one : (sites : List Site) (boundaries : List ℕ) (k : ℕ) (d : Site) → k < length sites → any_at (get_or sites k d).boundary boundaries ≡ false → AllOnThese sites boundaries → ⊥
strays_one sites boundaries k d within off all =
    false≢true (sym off ∙ all (get_or sites k d).boundary (place_stands (get_or sites k d).boundary sites k d within refl))

pub all_on_these : (sites : List Site) (boundaries : List ℕ) (n : ℕ) → length sites ≤ n → ((k : ℕ) (d : Site) → k < n → any_at (get_or sites k d).boundary boundaries ≡ true)
    → AllOnThese sites boundaries
all_on_these sites boundaries n past below s there =
    let found = stands_place s sites there in
    let none : Site = record { boundary = 0; slot = 0 } in
    subst (λ (t : ℕ). any_at t boundaries ≡ true) (found.2 none) (below found.0 none (omega (arith, past, found.1)))

-- ---- both

both_same : (a b : Bool) → (a ≡ true → b ≡ true) → (b ≡ true → a ≡ true) → a ≡ b
both_same true b to from = sym (to refl)
both_same false true to from = from refl
both_same false false to from = refl

pub just : (sites : List Site) (boundaries : List ℕ) → AllHave sites boundaries → AllOnThese sites boundaries → StandOnJust sites boundaries
just sites boundaries have on s = both_same (stands_on s sites) (any_at s boundaries) (on s) (have s)

pub just_have : (sites : List Site) (boundaries : List ℕ) → StandOnJust sites boundaries → AllHave sites boundaries
just_have sites boundaries stand s h = stand s ∙ h

pub just_on : (sites : List Site) (boundaries : List ℕ) → StandOnJust sites boundaries → AllOnThese sites boundaries
just_on sites boundaries stand s h = sym (stand s) ∙ h

pub not_both : (b : Bool) → b ≡ true → b ≡ false → ⊥
not_both b yes' no' = false≢true (sym no' ∙ yes')

-- ---- the places of a block

pub places_first : (block m b : ℕ) (places : List ℕ) (n : ℕ) → m ≤ n → m ≤ length places → ((k : ℕ) → k < n → get_or places k 0 ≡ (block + k) % b)
    → take m places ≡ map (λ k. (block + k) % b) (range_with_len 0 m)
places_first block m b places n past long each =
    fill_by_all (λ k. (block + k) % b) (take m places) m 0 (omega (arith, length-take m places, long))
    (λ k low. get_or-take m places k 0 low ∙ each k (omega (arith, past, low)))

-- ---- a home and a copy

pub by_homes : (sites : List Site) (home copy some_home some_copy : Option ℕ) (r : Bool) → home ≡ some_home → copy ≡ some_copy
    → IsTrue r ↔ StandOnJust sites (option_to_list some_home ++ option_to_list some_copy) → IsTrue r ↔ StandOnJust sites (option_to_list home ++ option_to_list copy)
by_homes sites home copy some_home some_copy r at beside stands =
    subst (λ (o : Option ℕ). IsTrue r ↔ StandOnJust sites (option_to_list o ++ option_to_list copy)) (sym at)
    (subst (λ (o : Option ℕ). IsTrue r ↔ StandOnJust sites (option_to_list some_home ++ option_to_list o)) (sym beside) stands)
