-- The numbers below a bound that pass a test, in their order: places of boundaries that are left.
use Rattle.std.proofs.Common.{◌≡◌, ◌==◌, ℕ, zero, suc, ◌+◌, ◌≤◌, ◌<◌, ◌++◌, ◌∷◌, Bool, true, false, cond, List, [], length, length-append, get_or, inl, inr, refl, sym, ◌∙◌, ap, subst, arith}
use Rattle.std.specs.List.{All, Contains, filter, range_with_len}
use Rattle.std.proofs.lemmas.Bool.{cases_eq, cases_lt, eq-eqb, eqb-true, false≢true}
use Rattle.std.proofs.lemmas.List.{get_or_append_left}
use Rattle.std.proofs.lemmas.List.Elements.{All-filter, Contains-append_left, Contains-push, filter-append, filter_passes}
use Rattle.std.proofs.lemmas.List.FromFn.{get_or-range_with_len, length-range_with_len}
use Rattle.std.proofs.lemmas.List.Sums.{fails_before_first, passes_at_first}
use Rattle.dg_model.specs.Lives.{place_in}

range_push : (a n : ℕ) → range_with_len a (suc n) ≡ range_with_len a n ++ (a + n) ∷ []
range_push a zero = let e : a ≡ a + zero = omega arith in ap (λ (x : ℕ). x ∷ []) e
range_push a (suc n) =
    let e : a + 1 + n ≡ a + suc n = omega arith in
    ap (λ (l : List ℕ). a ∷ l) (range_push (a + 1) n ∙ ap (λ (x : ℕ). range_with_len (a + 1) n ++ x ∷ []) e)

-- where it stands in the list there is that number
pub place_back : (xs : List ℕ) (s : ℕ) → place_in xs s < length xs → get_or xs (place_in xs s) 0 ≡ s
place_back xs s within = eqb-true (get_or xs (place_in xs s) 0) s (passes_at_first (λ t. t == s) xs 0 within)

-- a number of the list has a place in it
pub place_within : (xs : List ℕ) (s : ℕ) → Contains xs s → place_in xs s < length xs
place_within xs s (k, within, is) = elim (cases_lt (place_in xs s) (length xs)) [
  | inl below ↦ below
  | inr past ↦ absurd (false≢true (sym (fails_before_first (λ t. t == s) xs k s (omega (arith, within, past))) ∙ eq-eqb (get_or xs k s) s is))
]

short : (b : Bool) (x : ℕ) (kept xs : List ℕ) → length kept ≤ length xs → length (cond b (x ∷ kept) kept) ≤ suc (length xs)
short true x kept xs h = omega (arith, h)
short false x kept xs h = omega (arith, h)

front_push : (xs ys : List ℕ) (i v : ℕ) → (i < length xs) × (get_or xs i 0 ≡ v) → (i < length (xs ++ ys)) × (get_or (xs ++ ys) i 0 ≡ v)
front_push xs ys i v h = (omega (arith, h.0, length-append xs ys), get_or_append_left xs ys 0 i h.0 ∙ h.1)

module _ (p : ℕ → Bool) where
  filter_short : (xs : List ℕ) → length (filter p xs) ≤ length xs
  filter_short [] = omega arith
  filter_short (x ∷ xs) = short (p x) x (filter p xs) xs (filter_short xs)

  -- no more are left than there are
  pub left_short : (n : ℕ) → length (filter p (range_with_len 0 n)) ≤ n
  left_short n = omega (arith, filter_short (range_with_len 0 n), length-range_with_len 0 n)

  pub left_push : (n : ℕ) → filter p (range_with_len 0 (suc n)) ≡ filter p (range_with_len 0 n) ++ cond (p n) (n ∷ []) []
  left_push n =
      let e : 0 + n ≡ n = omega arith in
      ap (filter p) (range_push 0 n ∙ ap (λ (x : ℕ). range_with_len 0 n ++ x ∷ []) e) ∙ filter-append p (range_with_len 0 n) (n ∷ [])

  pub left_more : (n : ℕ) → filter p (range_with_len 0 (n + 1)) ≡ filter p (range_with_len 0 n) ++ cond (p n) (n ∷ []) []
  left_more n = let e : n + 1 ≡ suc n = omega arith in ap (λ (m : ℕ). filter p (range_with_len 0 m)) e ∙ left_push n

  -- each of them is below the bound, and passes
  pub left_below : (n i : ℕ) → i < length (filter p (range_with_len 0 n)) → get_or (filter p (range_with_len 0 n)) i 0 < n
  left_below n i within =
      let all : All (λ x. x < n) (range_with_len 0 n) = λ k d h. let low : k < n = omega (arith, h, length-range_with_len 0 n) in
      let e = get_or-range_with_len 0 n k d low in omega (arith, e, low) in
      All-filter p (λ x. x < n) (range_with_len 0 n) all i 0 within

  pub left_passes : (n i : ℕ) → i < length (filter p (range_with_len 0 n)) → p (get_or (filter p (range_with_len 0 n)) i 0) ≡ true
  left_passes n i within = filter_passes p (range_with_len 0 n) i 0 within

  -- each number below the bound that passes is one of them
  pub left_has : (n s : ℕ) → s < n → p s ≡ true → Contains (filter p (range_with_len 0 n)) s
  left_has zero s below passes = absurd (omega (arith, below))
  left_has (suc n) s below passes = elim (cases_eq s n) [
    | inl at ↦
        let here : p n ≡ true = ap p (sym at) ∙ passes in
        let all : filter p (range_with_len 0 (suc n)) ≡ filter p (range_with_len 0 n) ++ n ∷ [] =
        left_push n ∙ ap (λ (b : Bool). filter p (range_with_len 0 n) ++ cond b (n ∷ []) []) here in
        subst (λ (x : ℕ). Contains (filter p (range_with_len 0 (suc n))) x) (sym at) (subst (λ (l : List ℕ). Contains l n) (sym all) (Contains-push (filter p (range_with_len 0 n)) n))
    | inr off ↦ subst (λ (l : List ℕ). Contains l s) (sym (left_push n))
        (Contains-append_left (filter p (range_with_len 0 n)) (cond (p n) (n ∷ []) []) s (left_has n s (omega (arith, below, off)) passes))
  ]

  -- up to a greater bound they begin with the same
  pub left_front : (n d i : ℕ) → i < length (filter p (range_with_len 0 n))
      → (i < length (filter p (range_with_len 0 (n + d)))) × (get_or (filter p (range_with_len 0 (n + d))) i 0 ≡ get_or (filter p (range_with_len 0 n)) i 0)
  left_front n zero i within = let e : n ≡ n + 0 = omega arith in
      subst (λ (m : ℕ). (i < length (filter p (range_with_len 0 m))) × (get_or (filter p (range_with_len 0 m)) i 0 ≡ get_or (filter p (range_with_len 0 n)) i 0)) e (within, refl)
  left_front n (suc d) i within =
      let early = left_front n d i within in
      let e : suc (n + d) ≡ n + suc d = omega arith in
      subst (λ (m : ℕ). (i < length (filter p (range_with_len 0 m))) × (get_or (filter p (range_with_len 0 m)) i 0 ≡ get_or (filter p (range_with_len 0 n)) i 0)) e
      (subst (λ (l : List ℕ). (i < length l) × (get_or l i 0 ≡ get_or (filter p (range_with_len 0 n)) i 0)) (sym (left_push (n + d)))
      (front_push (filter p (range_with_len 0 (n + d))) (cond (p (n + d)) ((n + d) ∷ []) []) i (get_or (filter p (range_with_len 0 n)) i 0) early))

  -- where each number from a bound on passes, they are all left
  pub left_rest : (n d : ℕ) → ((s : ℕ) → n ≤ s → p s ≡ true) → length (filter p (range_with_len 0 (n + d))) ≡ length (filter p (range_with_len 0 n)) + d
  left_rest n zero all = let e : n + 0 ≡ n = omega arith in ap (λ (m : ℕ). length (filter p (range_with_len 0 m))) e ∙ (let f : length (filter p (range_with_len 0 n)) ≡ length (filter p (range_with_len 0 n)) + 0 = omega arith in f)
  left_rest n (suc d) all =
      let e : n + suc d ≡ suc (n + d) = omega arith in
      let here = all (n + d) (omega arith) in
      let push : filter p (range_with_len 0 (suc (n + d))) ≡ filter p (range_with_len 0 (n + d)) ++ (n + d) ∷ [] =
      left_push (n + d) ∙ ap (λ (b : Bool). filter p (range_with_len 0 (n + d)) ++ cond b ((n + d) ∷ []) []) here in
      ap (λ (m : ℕ). length (filter p (range_with_len 0 m))) e ∙ ap length push
      ∙ omega (arith, length-append (filter p (range_with_len 0 (n + d))) ((n + d) ∷ []), left_rest n d all)

-- two tests that agree below a bound leave the same
pub left_agree : (p q : ℕ → Bool) (n : ℕ) → ((s : ℕ) → s < n → p s ≡ q s) → filter p (range_with_len 0 n) ≡ filter q (range_with_len 0 n)
left_agree p q zero same = refl
left_agree p q (suc n) same =
    left_push p n ∙ ap (λ (l : List ℕ). l ++ cond (p n) (n ∷ []) []) (left_agree p q n (λ s h. same s (omega (arith, h))))
    ∙ ap (λ (b : Bool). filter q (range_with_len 0 n) ++ cond b (n ∷ []) []) (same n (omega arith)) ∙ sym (left_push q n)
