-- Lists of places: the first ones, and those that are left of a number of them.
use Rattle.std.proofs.Common.{◌≡◌, ◌∙◌, ◌≤◌, ◌<◌, ◌+◌, ◌++◌, ◌∷◌, ℕ, zero, suc, Bool, true, false, cond, List, [], All, ap, arith, get_or, length, length-append, refl, subst, sym}
use Rattle.std.specs.List.{filter, range_with_len}
use Rattle.std.proofs.lemmas.List.{get_or_append_left}
use Rattle.std.proofs.lemmas.List.Elements.{All-filter, filter-append}
use Rattle.std.proofs.lemmas.List.FromFn.{get_or-range_with_len, length-range_with_len}

-- ---- numbers below a bound that pass

range_push : (a n : ℕ) → range_with_len a (suc n) ≡ range_with_len a n ++ (a + n) ∷ []
range_push a zero = let e : a ≡ a + zero = omega arith in ap (λ (x : ℕ). x ∷ []) e
range_push a (suc n) =
    let e : a + 1 + n ≡ a + suc n = omega arith in
    ap (λ (l : List ℕ). a ∷ l) (range_push (a + 1) n ∙ ap (λ (x : ℕ). range_with_len (a + 1) n ++ x ∷ []) e)

front_push : (xs ys : List ℕ) (i v : ℕ) → (i < length xs) × (get_or xs i 0 ≡ v) → (i < length (xs ++ ys)) × (get_or (xs ++ ys) i 0 ≡ v)
front_push xs ys i v h = (omega (arith, h.0, length-append xs ys), get_or_append_left xs ys 0 i h.0 ∙ h.1)

module _ (p : ℕ → Bool) where
  left_push : (n : ℕ) → filter p (range_with_len 0 (suc n)) ≡ filter p (range_with_len 0 n) ++ cond (p n) (n ∷ []) []
  left_push n =
      let e : 0 + n ≡ n = omega arith in
      ap (filter p) (range_push 0 n ∙ ap (λ (x : ℕ). range_with_len 0 n ++ x ∷ []) e) ∙ filter-append p (range_with_len 0 n) (n ∷ [])

  -- each of them is below the bound
  pub left_below : (n i : ℕ) → i < length (filter p (range_with_len 0 n)) → get_or (filter p (range_with_len 0 n)) i 0 < n
  left_below n i within =
      let all : All (λ x. x < n) (range_with_len 0 n) = λ k d h. let low : k < n = omega (arith, h, length-range_with_len 0 n) in
      let e = get_or-range_with_len 0 n k d low in omega (arith, e, low) in
      All-filter p (λ x. x < n) (range_with_len 0 n) all i 0 within

  -- up to a greater bound the list begins with the same
  pub left_front : (n d i : ℕ) → i < length (filter p (range_with_len 0 n))
      → (i < length (filter p (range_with_len 0 (n + d)))) × (get_or (filter p (range_with_len 0 (n + d))) i 0 ≡ get_or (filter p (range_with_len 0 n)) i 0)
  left_front n zero i within = let e : n ≡ n + 0 = omega arith in
      subst (λ (m : ℕ). (i < length (filter p (range_with_len 0 m))) × (get_or (filter p (range_with_len 0 m)) i 0 ≡ get_or (filter p (range_with_len 0 n)) i 0)) e (within, refl)
  left_front n (suc d) i within =
      let early = left_front n d i within in
      let e : suc (n + d) ≡ n + suc d = omega arith in
      subst (λ (m : ℕ). (i < length (filter p (range_with_len 0 m))) × (get_or (filter p (range_with_len 0 m)) i 0 ≡ get_or (filter p (range_with_len 0 n)) i 0)) e
      (subst (λ (l : List ℕ). (i < length l) × (get_or l i 0 ≡ get_or (filter p (range_with_len 0 n)) i 0)) (sym (left_push (n + d)))
      (front_push (filter p (range_with_len 0 (n + d))) (cond (p (n + d)) ((n + d) ∷ []) []) i (get_or (filter p (range_with_len 0 n)) i 0) early))

-- ---- how many pass

-- each of the first b elements passes, so at least so many do
pub front_passes : (p : ℕ → Bool) (xs : List ℕ) (b : ℕ) → b ≤ length xs → ((i : ℕ) → i < b → p (get_or xs i 0) ≡ true) → b ≤ length (filter p xs)
front_passes p xs zero few all = omega arith
front_passes p [] (suc b) few all = absurd (omega (arith, few))
front_passes p (x ∷ xs) (suc b) few all =
    let first : p x ≡ true = all 0 (omega arith) in
    let more = front_passes p xs b (omega (arith, few)) (λ i low. all (suc i) (omega (arith, low))) in
    rw first (omega (arith, more))

one_longer : (xs all : List ℕ) (pass : Bool) (x most : ℕ) → all ≡ xs ++ cond pass (x ∷ []) [] → length xs ≤ most → length all ≤ suc most
one_longer xs all true x most is few = omega (arith, ap length is, length-append xs (x ∷ []), few)
one_longer xs all false x most is few = omega (arith, ap length is, length-append xs [], few)

-- of k numbers more no more than k pass
pub no_longer : (p : ℕ → Bool) (m k n : ℕ) → n ≡ m + k → length (filter p (range_with_len 0 n)) ≤ length (filter p (range_with_len 0 m)) + k
no_longer p m zero n e =
    let same : m ≡ n = omega (arith, e) in
    subst (λ (i : ℕ). length (filter p (range_with_len 0 i)) ≤ length (filter p (range_with_len 0 m)) + 0) same (omega arith)
no_longer p m (suc k) zero e = absurd (omega (arith, e))
no_longer p m (suc k) (suc n) e =
    let few = no_longer p m k n (omega (arith, e)) in
    let more = one_longer (filter p (range_with_len 0 n)) (filter p (range_with_len 0 (suc n))) (p n) n (length (filter p (range_with_len 0 m)) + k) (left_push p n) few in
    less _ (length (filter p (range_with_len 0 m))) k more
  where
    less : (all front k : ℕ) → all ≤ suc (front + k) → all ≤ front + suc k
    less all front k few = omega (arith, few)
