-- Actions, one list after another, and how many placements are missing.
use Rattle.std.proofs.Common.{◌≡◌, ◌+◌, ℕ, zero, suc, Bool, cond, List, [], ◌∷◌, ◌++◌, length, refl, ◌∙◌, ap, arith}
use Rattle.std.specs.List.{filter, flat_map, range_with_len, sum_by}
use Rattle.std.proofs.lemmas.Grind.{flat_map-append}
use Rattle.std.proofs.lemmas.List.{append-nil, length-append, length-map}
use Rattle.std.proofs.lemmas.List.Sums.{length-filter, sum_by-append, sum_by-cons}
use Rattle.dg_model.specs.Moves.{Action, all_done, count_upto, done, give_ups, is_missing, missing, missing_in, missing_of, spare, sum_upto, tidying}
use Rattle.dg_model.specs.Tables.{Table, sites_in}
use Rattle.dg_model.proofs.SumLaws.{sum_same}

pub all_both : (xs ys : List Action) (a : Table) → all_done a (xs ++ ys) ≡ all_done (all_done a xs) ys
all_both [] ys a = refl
all_both (x ∷ xs) ys a = all_both xs ys (done a x)

-- ---- lists of placements

pub range_last : (a n : ℕ) → range_with_len a (suc n) ≡ range_with_len a n ++ (a + n) ∷ []
range_last a zero = let e : a ≡ a + 0 = omega arith in ap (λ (x : ℕ). x ∷ []) e
range_last a (suc n) =
    let e : a + 1 + n ≡ a + suc n = omega arith in
    ap (λ (xs : List ℕ). a ∷ xs) (range_last (a + 1) n ∙ ap (λ (x : ℕ). range_with_len (a + 1) n ++ x ∷ []) e)

-- a sum over a range
pub sum_range : (f : ℕ → ℕ) (n : ℕ) → sum_by f (range_with_len 0 n) ≡ sum_upto n f
sum_range f zero = refl
sum_range f (suc n) =
    let e : 0 + n ≡ n = omega arith in
    omega (
      arith,
      ap (sum_by f) (range_last 0 n),
      sum_by-append f (range_with_len 0 n) ((0 + n) ∷ []),
      sum_by-cons f (0 + n) [],
      ap f e,
      sum_range f n,
    )

pub flat_length : {X Y : Type 0} (f : X → List Y) (xs : List X) → length (flat_map f xs) ≡ sum_by (λ (x : X). length (f x)) xs
flat_length f [] = refl
flat_length {X} {Y} f (x ∷ xs) = omega (arith, length-append (f x) (flat_map f xs), flat_length f xs, sum_by-cons (λ (y : X). length (f y)) x xs)

one_length : (targets : ℕ → ℕ → Bool) (table : Table) (b : ℕ) → length (missing_of targets table b) ≡ count_upto table.shape.b (is_missing targets table b)
one_length targets table b =
    length-map (filter (is_missing targets table b) (range_with_len 0 table.shape.b)) (λ s. record { block = b; boundary = s })
    ∙ length-filter (is_missing targets table b) (range_with_len 0 table.shape.b)
    ∙ sum_range (λ s. cond (is_missing targets table b s) 1 0) table.shape.b

-- there are as many missing placements as were counted
pub missing_length : (targets : ℕ → ℕ → Bool) (table : Table) → length (missing targets table) ≡ missing_in targets table
unfolding missing
missing_length targets table =
    flat_length (missing_of targets table) (range_with_len 0 table.shape.n)
    ∙ sum_range (λ b. length (missing_of targets table b)) table.shape.n
    ∙ sum_same (λ b. length (missing_of targets table b)) (λ b. count_upto table.shape.b (is_missing targets table b)) table.shape.n (λ b low. one_length targets table b)

-- ---- what blocks give up first

-- what the first blocks give up
abbrev pub tidying_below : (ℕ → ℕ → Bool) → Table → ℕ → List Action
tidying_below targets table k = flat_map (λ b. give_ups b (spare (targets b) (sites_in table b))) (range_with_len 0 k)

pub tidying_is : (targets : ℕ → ℕ → Bool) (table : Table) → tidying targets table ≡ tidying_below targets table table.shape.n
unfolding tidying
tidying_is targets table = refl

pub tidying_more : (targets : ℕ → ℕ → Bool) (table : Table) (k n : ℕ) → n ≡ k + 1
    → tidying_below targets table n ≡ tidying_below targets table k ++ give_ups k (spare (targets k) (sites_in table k))
tidying_more targets table k n one =
    let f : ℕ → List Action = λ b. give_ups b (spare (targets b) (sites_in table b)) in
    let s : n ≡ suc k = omega (arith, one) in
    let e : 0 + k ≡ k = omega arith in
    ap (λ (m : ℕ). flat_map f (range_with_len 0 m)) s
    ∙ ap (flat_map f) (range_last 0 k)
    ∙ flat_map-append f (range_with_len 0 k) ((0 + k) ∷ [])
    ∙ ap (λ (xs : List Action). tidying_below targets table k ++ xs) (append-nil (f (0 + k)) ∙ ap f e)
