-- A boundary with at most K used slots has a free one among its K counted slots and the spare one.
use Rattle.std.proofs.Common.{◌≡◌, ◌&&◌, ◌||◌, ◌==◌, ℕ, zero, suc, ◌+◌, ◌<◌, ◌≤◌, inl, inr, Bool, true, false, cond, not, List, [], ◌∷◌, refl, sym, arith}
use Rattle.std.specs.List.{list_any, sum_by}
use Rattle.std.proofs.lemmas.Bool.{cases_lt}
use Rattle.std.proofs.lemmas.Bool.Decides.{nat_tests}
use Rattle.std.proofs.lemmas.List.Sums.{sum_by-cons}
use Rattle.dg_model.specs.Moves.{count_upto}
use Rattle.dg_model.specs.Tables.{IsLowestFree, Table, count_on, is_taken, least_upto, lowest_free, used_in}
use Rattle.dg_model.specs.declared.sites.Site.{Site}
use Rattle.dg_model.proofs.FreeLaws.{least_below, lowest_free_is}
use Rattle.dg_model.proofs.SiteLists.{count_on-cons}
use Rattle.dg_model.proofs.SumLaws.{one_at, sum_both, sum_le, sum_none}

-- at most one number is a
once : (a n : ℕ) → count_upto n (λ k. a == k) ≤ 1
once a zero = omega arith
once a (suc n) = elim (cases_lt a n) [
  | inl less ↦ let rest = once a n in let apart : (a == n) ≡ false = grind (arith, nat_tests) in let none : ◌≡◌ {A = ℕ} (cond (a == n) 1 0) 0 = rw apart refl in omega arith
  | inr more ↦ let none = before a n more in let most = at_most (a == n) in omega arith
]
  where
    before : (a n : ℕ) → n ≤ a → count_upto n (λ k. a == k) ≡ 0
    before a zero low = refl
    before a (suc n) low = let rest = before a n (omega arith) in let apart : (a == n) ≡ false = grind (arith, nat_tests) in let none : ◌≡◌ {A = ℕ} (cond (a == n) 1 0) 0 = rw apart refl in omega arith

    at_most : (b : Bool) → cond b 1 0 ≤ 1
    at_most true = omega arith
    at_most false = omega arith

-- whether a site is the slot of the boundary, and whether one of some sites is
abbrev is_slot : ℕ → Site → ℕ → Bool
is_slot s site slot = (site.boundary == s) && (site.slot == slot)

one_site : (s n : ℕ) (site : Site) → count_upto n (is_slot s site) ≤ cond (site.boundary == s) 1 0
one_site s n site = by_test (site.boundary == s)
  where
    by_test : (here : Bool) → count_upto n (λ slot. here && (site.slot == slot)) ≤ cond here 1 0
    by_test true = once site.slot n
    by_test false = let none = sum_none n in omega arith

or_few : (a b : Bool) → cond {A = ℕ} (a || b) 1 0 ≤ cond a 1 0 + cond b 1 0
or_few true b = omega arith
or_few false true = omega arith
or_few false false = omega arith

some_sites : (s n : ℕ) (sites : List Site) → count_upto n (λ slot. list_any (λ site. (site.boundary == s) && (site.slot == slot)) sites) ≤ count_on s sites
some_sites s n [] = let none = sum_none n in omega arith
some_sites s n (x ∷ xs) =
    let rest = some_sites s n xs in
    let first = one_site s n x in
    let count = count_on-cons s x xs in
    let split = sum_both (λ slot. cond {A = ℕ} (is_slot s x slot) 1 0) (λ slot. cond {A = ℕ} (list_any (λ site. (site.boundary == s) && (site.slot == slot)) xs) 1 0) n in
    let most = sum_le (λ slot. cond {A = ℕ} (list_any (λ site. (site.boundary == s) && (site.slot == slot)) (x ∷ xs)) 1 0)
    (λ slot. cond {A = ℕ} (is_slot s x slot) 1 0 + cond {A = ℕ} (list_any (λ site. (site.boundary == s) && (site.slot == slot)) xs) 1 0) n
    (λ slot low. or_few (is_slot s x slot) (list_any (λ site. (site.boundary == s) && (site.slot == slot)) xs)) in
    omega arith

some_rows : (s n : ℕ) (rows : List (List Site)) → count_upto n (λ slot. list_any (λ sites. list_any (λ site. (site.boundary == s) && (site.slot == slot)) sites) rows) ≤ sum_by (count_on s) rows
some_rows s n [] = let none = sum_none n in omega arith
some_rows s n (xs ∷ rows) =
    let rest = some_rows s n rows in
    let first = some_sites s n xs in
    let count = sum_by-cons (count_on s) xs rows in
    let split = sum_both (λ slot. cond {A = ℕ} (list_any (λ site. (site.boundary == s) && (site.slot == slot)) xs) 1 0)
    (λ slot. cond {A = ℕ} (list_any (λ sites. list_any (λ site. (site.boundary == s) && (site.slot == slot)) sites) rows) 1 0) n in
    let most = sum_le (λ slot. cond {A = ℕ} (list_any (λ sites. list_any (λ site. (site.boundary == s) && (site.slot == slot)) sites) (xs ∷ rows)) 1 0)
    (λ slot. cond {A = ℕ} (list_any (λ site. (site.boundary == s) && (site.slot == slot)) xs) 1 0 + cond {A = ℕ} (list_any (λ sites. list_any (λ site. (site.boundary == s) && (site.slot == slot)) sites) rows) 1 0) n
    (λ slot low. or_few (list_any (λ site. (site.boundary == s) && (site.slot == slot)) xs) (list_any (λ sites. list_any (λ site. (site.boundary == s) && (site.slot == slot)) sites) rows)) in
    omega arith

-- no more slots are taken than are used
taken_few : (table : Table) (s n : ℕ) → count_upto n (is_taken table s) ≤ used_in table s
taken_few table s n = some_rows s n table.rows

count_all : (test : ℕ → Bool) (n : ℕ) → ((k : ℕ) → k < n → test k ≡ true) → n ≤ count_upto n test
count_all test zero each = omega arith
count_all test (suc n) each = let rest = count_all test n (λ k low. each k (omega arith)) in let one = one_at (test n) (each n (omega arith)) in omega arith

not_not : (b : Bool) → not b ≡ false → b ≡ true
not_not true h = refl
not_not false h = sym h

-- where all slots below one are taken, as many are used
pub taken_below : (table : Table) (s slot : ℕ) → ((k : ℕ) → k < slot → is_taken table s k ≡ true) → slot ≤ used_in table s
taken_below table s slot each = let few = taken_few table s slot in let all = count_all (is_taken table s) slot each in omega arith

pub free_low : (table : Table) (s : ℕ) → used_in table s ≤ table.shape.k → lowest_free table s ≤ table.shape.k
unfolding lowest_free
free_low table s room = elim (cases_lt (least_upto (table.shape.k + 1) (λ slot. not (is_taken table s slot))) (table.shape.k + 1)) [
  | inl low ↦ omega arith
  | inr high ↦
      let all = taken_below table s (table.shape.k + 1) (λ k low. not_not (is_taken table s k) (least_below (table.shape.k + 1) (λ slot. not (is_taken table s slot)) k (omega arith))) in
      omega arith
]

pub free_is : (table : Table) (s : ℕ) → used_in table s ≤ table.shape.k → IsLowestFree table s (lowest_free table s)
free_is table s room = lowest_free_is table s (free_low table s room)
