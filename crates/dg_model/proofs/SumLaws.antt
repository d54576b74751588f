-- Sums of what a function gives below a number, and counts of the numbers that pass a test. A library for the crates above.
use Rattle.std.proofs.Common.{◌≡◌, ◌≢◌, ◌<◌, ◌≤◌, ◌+◌, ◌*◌, ℕ, zero, suc, Bool, true, false, cond, List, length, get_or, take, inl, inr, refl, sym, ◌∙◌, ap, arith}
use Rattle.std.specs.List.{sum_by}
use Rattle.std.proofs.lemmas.Bool.{cases_eq, cases_lt}
use Rattle.std.proofs.lemmas.List.{take_all}
use Rattle.std.proofs.lemmas.List.Sums.{sum_by_more}
use Rattle.dg_model.specs.Moves.{count_upto, sum_upto}

-- ---- sums

pub sum_more : (f : ℕ → ℕ) (k n : ℕ) → n ≡ k + 1 → sum_upto n f ≡ sum_upto k f + f k
sum_more f k n e = let s : n ≡ suc k = omega arith in ap (λ (m : ℕ). sum_upto m f) s

pub sum_same : (f g : ℕ → ℕ) (n : ℕ) → ((i : ℕ) → i < n → f i ≡ g i) → sum_upto n f ≡ sum_upto n g
sum_same f g zero same = refl
sum_same f g (suc n) same = omega (arith, same n (omega arith), sum_same f g n (λ i low. same i (omega arith)))

pub sum_le : (f g : ℕ → ℕ) (n : ℕ) → ((i : ℕ) → i < n → f i ≤ g i) → sum_upto n f ≤ sum_upto n g
sum_le f g zero less = omega arith
sum_le f g (suc n) less = omega (arith, less n (omega arith), sum_le f g n (λ i low. less i (omega arith)))

pub sum_none : (n : ℕ) → sum_upto n (λ i. 0) ≡ 0
sum_none zero = refl
sum_none (suc n) = omega (arith, sum_none n)

pub sum_zero : (f : ℕ → ℕ) (n : ℕ) → ((i : ℕ) → i < n → f i ≡ 0) → sum_upto n f ≡ 0
sum_zero f zero none = refl
sum_zero f (suc n) none = omega (arith, none n (omega arith), sum_zero f n (λ i low. none i (omega arith)))

-- no term is more than the sum
pub term_le : (f : ℕ → ℕ) (n i : ℕ) → i < n → f i ≤ sum_upto n f
term_le f zero i low = absurd (omega arith)
term_le f (suc n) i low = elim (cases_lt i n) [
  | inl below ↦ omega (arith, term_le f n i below)
  | inr last ↦ let e : f i ≡ f n = ap f (let at : i ≡ n = omega arith in at) in omega (arith, e)
]

pub sum_le_most : (f : ℕ → ℕ) (n most : ℕ) → ((i : ℕ) → i < n → f i ≤ most) → sum_upto n f ≤ n * most
sum_le_most f zero most each = omega arith
sum_le_most f (suc n) most each = omega (arith, each n (omega arith), sum_le_most f n most (λ i low. each i (omega arith)))

pub sum_both : (f g : ℕ → ℕ) (n : ℕ) → sum_upto n (λ i. f i + g i) ≡ sum_upto n f + sum_upto n g
sum_both f g zero = refl
sum_both f g (suc n) = omega (arith, sum_both f g n)

-- a sum of sums in the other order
pub sum_swap : (f : ℕ → ℕ → ℕ) (m n : ℕ) → sum_upto m (λ i. sum_upto n (λ j. f i j)) ≡ sum_upto n (λ j. sum_upto m (λ i. f i j))
sum_swap f zero n = omega (arith, sum_none n)
sum_swap f (suc m) n = omega (arith, sum_swap f m n, sum_both (λ j. sum_upto m (λ i. f i j)) (λ j. f m j) n)

-- where no term of one is more than that of the other, and the sum is no less, the terms are equal
pub squeeze : (f g : ℕ → ℕ) (n : ℕ) → ((i : ℕ) → i < n → f i ≤ g i) → sum_upto n g ≤ sum_upto n f → (i : ℕ) → i < n → g i ≤ f i
squeeze f g zero less sums i low = absurd (omega arith)
squeeze f g (suc n) less sums i low =
    let front : sum_upto n f ≤ sum_upto n g = sum_le f g n (λ j below. less j (omega arith)) in
    let last : f n ≤ g n = less n (omega arith) in
    elim (cases_lt i n) [
      | inl below ↦ squeeze f g n (λ j b. less j (omega arith)) (omega (arith, sums, front, last)) i below
      | inr past ↦ let at : i ≡ n = omega arith in let x : f i ≡ f n = ap f at in let y : g i ≡ g n = ap g at in omega (arith, sums, front, last, x, y)
    ]

-- the functions differ at one place, by one
pub sum_one_less : (f g : ℕ → ℕ) (n i : ℕ) → i < n → g i + 1 ≡ f i → ((j : ℕ) → j ≢ i → g j ≡ f j) → sum_upto n g + 1 ≡ sum_upto n f
sum_one_less f g zero i low one rest = absurd (omega arith)
sum_one_less f g (suc n) i low one rest = elim (cases_eq i n) [
  | inl at ↦
      let front : sum_upto n g ≡ sum_upto n f = sum_same g f n (λ j below. rest j (λ e. absurd (omega (arith, e, at, below)))) in
      let x : f i ≡ f n = ap f at in
      let y : g i ≡ g n = ap g at in
      omega (arith, front, one, x, y)
  | inr off ↦ omega (arith, sum_one_less f g n i (omega (arith, low, off)) one rest, rest n (λ e. off (sym e)))
]

sum_front : {X : Type 0} (f : X → ℕ) (xs : List X) (d : X) (k : ℕ) → k ≤ length xs → sum_by f (take k xs) ≡ sum_upto k (λ i. f (get_or xs i d))
sum_front f xs d zero within = refl
sum_front f xs d (suc k) within =
    let s : suc k ≡ k + 1 = omega arith in
    let whole : sum_by f (take (suc k) xs) ≡ sum_by f (take (k + 1) xs) = ap (λ (m : ℕ). sum_by f (take m xs)) s in
    omega (arith, whole, sum_by_more f xs k d (omega arith), sum_front f xs d k (omega arith))

-- a sum over a list, as one by places
pub sum_places : {X : Type 0} (f : X → ℕ) (xs : List X) (d : X) → sum_by f xs ≡ sum_upto (length xs) (λ i. f (get_or xs i d))
sum_places f xs d = sym (ap (sum_by f) (take_all (length xs) xs (omega arith))) ∙ sum_front f xs d (length xs) (omega arith)

-- ---- counts

pub one_at : (b : Bool) → b ≡ true → ◌≡◌ {A = ℕ} (cond b 1 0) 1
one_at b e = ap (λ v. cond {A = ℕ} v 1 0) e

pub none_at : (b : Bool) → b ≡ false → ◌≡◌ {A = ℕ} (cond b 1 0) 0
none_at b e = ap (λ v. cond {A = ℕ} v 1 0) e

pub count_pos : (n i : ℕ) (test : ℕ → Bool) → i < n → test i ≡ true → 1 ≤ count_upto n test
count_pos n i test low passes = omega (arith, term_le (λ j. cond (test j) 1 0) n i low, one_at (test i) passes)

pub count_none : (n : ℕ) (test : ℕ → Bool) → ((i : ℕ) → i < n → test i ≡ false) → count_upto n test ≡ 0
count_none n test fails = sum_zero (λ j. cond (test j) 1 0) n (λ i low. none_at (test i) (fails i low))

-- the tests differ at one place alone
pub count_one_less : (n i : ℕ) (old new : ℕ → Bool) → i < n → old i ≡ true → new i ≡ false → ((j : ℕ) → j ≢ i → new j ≡ old j)
    → count_upto n new + 1 ≡ count_upto n old
count_one_less n i old new low was is rest =
    sum_one_less (λ j. cond (old j) 1 0) (λ j. cond (new j) 1 0) n i low
    (omega (arith, one_at (old i) was, none_at (new i) is))
    (λ j off. ap (λ v. cond {A = ℕ} v 1 0) (rest j off))

pub count_same : (n : ℕ) (old new : ℕ → Bool) → ((j : ℕ) → new j ≡ old j) → count_upto n new ≡ count_upto n old
count_same n old new same = sum_same (λ j. cond (new j) 1 0) (λ j. cond (old j) 1 0) n (λ j low. ap (λ v. cond {A = ℕ} v 1 0) (same j))
