-- Where each boundary is packed and a block has no site, another one has more than one.
use Rattle.std.proofs.Common.{◌≡◌, ◌<◌, ◌≤◌, ◌+◌, ◌*◌, ◌==◌, ℕ, zero, suc, cond, List, [], ◌∷◌, length, get_or, inl, inr, refl, ap, arith}
use Rattle.std.specs.List.{sum_by}
use Rattle.std.proofs.lemmas.Bool.{cases_eq}
use Rattle.std.proofs.lemmas.List.Sums.{sum_by-cons}
use Rattle.dg_model.specs.declared.sites.Site.{Site}
use Rattle.dg_model.specs.Sites.{IsPacked}
use Rattle.dg_model.specs.Tables.{IsTable, Table, count_on, sites_in, used_in}
use Rattle.dg_model.proofs.SiteLists.{apart_test, count_on-cons, one_if, same_test, zero_if}

-- the sum of the numbers of so many boundaries
abbrev sum_upto : ℕ → (ℕ → ℕ) → ℕ
sum_upto zero f = 0
sum_upto (suc s) f = f s + sum_upto s f

sum_zero : (n : ℕ) → sum_upto n (λ s. 0) ≡ 0
sum_zero zero = refl
sum_zero (suc n) = omega (arith, sum_zero n)

sum_same : (f g : ℕ → ℕ) (n : ℕ) → ((s : ℕ) → f s ≡ g s) → sum_upto n f ≡ sum_upto n g
sum_same f g zero same = refl
sum_same f g (suc n) same = omega (arith, same n, sum_same f g n same)

sum_both : (f g : ℕ → ℕ) (n : ℕ) → sum_upto n (λ s. f s + g s) ≡ sum_upto n f + sum_upto n g
sum_both f g zero = refl
sum_both f g (suc n) = omega (arith, sum_both f g n)

sum_least : (k : ℕ) (f : ℕ → ℕ) (n : ℕ) → ((s : ℕ) → s < n → k ≤ f s) → n * k ≤ sum_upto n f
sum_least k f zero each = omega arith
sum_least k f (suc n) each = omega (arith, each n (omega arith), sum_least k f n (λ s lt. each s (omega arith)))

-- one site is on at most one boundary
sum_past : (b n : ℕ) → n ≤ b → sum_upto n (λ s. cond (b == s) 1 0) ≡ 0
sum_past b zero past = refl
sum_past b (suc n) past = omega (arith, zero_if (b == n) (apart_test b n (λ e. absurd (omega (arith, e)))), sum_past b n (omega arith))

sum_single : (b n : ℕ) → sum_upto n (λ s. cond (b == s) 1 0) ≤ 1
sum_single b zero = omega arith
sum_single b (suc n) = elim (cases_eq b n) [
  | inl e ↦ omega (arith, one_if (b == n) (same_test b n e), sum_past b n (omega (arith, e)))
  | inr ne ↦ omega (arith, zero_if (b == n) (apart_test b n ne), sum_single b n)
]

-- a list has as many sites as it has on all boundaries, or more
row_counts : (n : ℕ) (xs : List Site) → sum_upto n (λ s. count_on s xs) ≤ length xs
row_counts n [] = omega (arith, sum_zero n)
row_counts n (x ∷ xs) =
    omega (
      arith,
      sum_same (λ s. count_on s (x ∷ xs)) (λ s. cond (x.boundary == s) 1 0 + count_on s xs) n (λ s. count_on-cons s x xs),
      sum_both (λ s. cond (x.boundary == s) 1 0) (λ s. count_on s xs) n,
      sum_single x.boundary n,
      row_counts n xs,
    )

all_counts : (n : ℕ) (rows : List (List Site)) → sum_upto n (λ s. sum_by (count_on s) rows) ≤ sum_by length rows
all_counts n [] = omega (arith, sum_zero n)
all_counts n (row ∷ rows) =
    omega (
      arith,
      sum_same (λ s. sum_by (count_on s) (row ∷ rows)) (λ s. count_on s row + sum_by (count_on s) rows) n (λ s. sum_by-cons (count_on s) row rows),
      sum_both (λ s. count_on s row) (λ s. sum_by (count_on s) rows) n,
      row_counts n row,
      all_counts n rows,
      sum_by-cons length row rows,
    )

single_rows : (rows : List (List Site)) → ((k : ℕ) → k < length rows → length (get_or rows k []) ≤ 1) → sum_by length rows ≤ length rows
single_rows [] single = omega arith
single_rows (row ∷ rows) single = omega (arith, sum_by-cons length row rows, single 0 (omega arith), single_rows rows (λ k lt. single (suc k) (omega arith)))

one_empty : (rows : List (List Site)) (i : ℕ) → i < length rows → get_or rows i [] ≡ [] → ((k : ℕ) → k < length rows → length (get_or rows k []) ≤ 1) → sum_by length rows < length rows
one_empty [] i lt none single = absurd (omega (arith, lt))
one_empty (row ∷ rows) zero lt none single =
    let empty : length row ≡ 0 = ap length none in
    omega (arith, sum_by-cons length row rows, empty, single_rows rows (λ k lt. single (suc k) (omega arith)))
one_empty (row ∷ rows) (suc i) lt none single =
    omega (arith, sum_by-cons length row rows, single 0 (omega arith), one_empty rows i (omega (arith, lt)) none (λ k lt. single (suc k) (omega arith)))

pub not_all_single : (table : Table) (b : ℕ) → IsTable table → IsPacked table → b < table.shape.n → sites_in table b ≡ [] → ((k : ℕ) → k < table.shape.n → length (sites_in table k) ≤ 1) → ⊥
not_all_single table b ok packed within none single =
    let few : sum_by length table.rows < length table.rows = one_empty table.rows b (omega (arith, ok.size)) none (λ k lt. single k (omega (arith, ok.size))) in
    let all : sum_upto table.shape.b (used_in table) ≤ sum_by length table.rows = all_counts table.shape.b table.rows in
    let most : table.shape.b * table.shape.k ≤ sum_upto table.shape.b (used_in table) = sum_least table.shape.k (used_in table) table.shape.b packed in
    let room : table.shape.n ≤ table.shape.b * table.shape.k = ok.shape.room in
    absurd (omega (arith, few, all, most, room, ok.size))
