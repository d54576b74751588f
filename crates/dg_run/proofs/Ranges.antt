-- Ranges of a list.
use Rattle.std.proofs.Common.{◌≡◌, ℕ, ◌+◌, ◌-◌, ◌≤◌, List, ◌++◌, take, drop, sym, ◌∙◌, ap, arith}
use Rattle.std.specs.Prelude.{slice_range}
use Rattle.std.proofs.Math.Seq.{take-add}
use Rattle.std.proofs.lemmas.List.{drop-drop, drop-take}
use Rattle.std.proofs.lemmas.Grind.{common_steps}

-- a range is one range and then the next
pub slice_range-split : (xs : List ℕ) (i j k : ℕ) → i ≤ j → j ≤ k → slice_range xs i k ≡ slice_range xs i j ++ slice_range xs j k
slice_range-split xs i j k ij jk =
    let e : (j - i) + (k - j) ≡ k - i = omega arith in
    let f : i + (j - i) ≡ j = omega arith in
    ap (λ (n : ℕ). take n (drop i xs)) (sym e) ∙ take-add (j - i) (k - j) (drop i xs)
    ∙ ap (λ (l : List ℕ). take (j - i) (drop i xs) ++ take (k - j) l) (drop-drop (j - i) i xs ∙ ap (λ (n : ℕ). drop n xs) f)

-- a range depends on no more than the front that it is in
pub slice_range-front : (xs ys : List ℕ) (i j : ℕ) → i ≤ j → take j xs ≡ take j ys → slice_range xs i j ≡ slice_range ys i j
slice_range-front xs ys i j ij same =
    let f : i + (j - i) ≡ j = omega arith in
    let as_drop : (l : List ℕ) → slice_range l i j ≡ drop i (take j l) = λ (l : List ℕ). sym (ap (λ (n : ℕ). drop i (take n l)) (sym f) ∙ drop-take i (j - i) l) in
    as_drop xs ∙ ap (λ (l : List ℕ). drop i l) same ∙ sym (as_drop ys)

-- a range that grew behind a front that stayed
pub slice_range-grown : (old new : List ℕ) (i j k : ℕ) → i ≤ j → j ≤ k → take j new ≡ take j old → slice_range new i k ≡ slice_range old i j ++ slice_range new j k
slice_range-grown old new i j k ij jk same =
    slice_range-split new i j k ij jk ∙ ap (λ (l : List ℕ). l ++ slice_range new j k) (slice_range-front new old i j ij same)

-- the front and the rest of a range
pub take_range : (xs : List ℕ) (i j n : ℕ) → i + n ≤ j → take n (slice_range xs i j) ≡ slice_range xs i (i + n)
take_range xs i j n h = grind (arith, common_steps)

pub drop_range : (xs : List ℕ) (i j n k : ℕ) → k ≡ i + n → k ≤ j → drop n (slice_range xs i j) ≡ slice_range xs k j
drop_range xs i j n k is h =
    let e : n + (j - k) ≡ j - i = omega arith in
    ap (λ (m : ℕ). drop n (take m (drop i xs))) (sym e) ∙ drop-take n (j - k) (drop i xs)
    ∙ ap (λ (l : List ℕ). take (j - k) l) (drop-drop n i xs ∙ ap (λ (m : ℕ). drop m xs) (sym is))
