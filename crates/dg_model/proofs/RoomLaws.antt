-- Where no block has a site that it can do without, some missing placement has a free slot: else the boundaries had more used slots
-- than there are placements. So the two steps of a round are enough. A library for the crates above.
use Rattle.std.proofs.Common.{◌≡◌, ◌<◌, ◌≤◌, ◌+◌, ◌==◌, ◌⊎◌, ℕ, zero, suc, Bool, true, false, cond, not, List, [], ◌∷◌, length, map, inl, inr, refl, sym, ◌∙◌, ap, arith}
use Rattle.std.specs.Prelude.{Some, None, filter, find, is_some, nat_le}
use Rattle.std.specs.List.{Contains, range_with_len}
use Rattle.std.proofs.lemmas.Bool.{and_from, both_ways, cases_eq, cases_Bool, cases_lt, false≢true, le-leb, le-ltb}
use Rattle.dg_model.specs.Moves.{AreTargets, IsTidy, count_upto, has_met, is_missing, missing, missing_in, missing_of, next_placement, off_target, spare, sum_upto}
use Rattle.dg_model.specs.Plans.{Placement}
use Rattle.dg_model.specs.Sites.{has_site}
use Rattle.dg_model.specs.Tables.{IsTable, Table, count_on, is_on, sites_in, used_in}
use Rattle.dg_model.specs.declared.sites.Site.{Site}
use Rattle.dg_model.proofs.ClaimSearch.{in_parts, in_range}
use Rattle.dg_model.proofs.SiteLists.{apart_test, count_on-cons, one_if, same_test, zero_if}
use Rattle.dg_model.proofs.SpareLaws.{no_other, short_first, spare_met, spare_unmet}
use Rattle.dg_model.proofs.SumLaws.{count_none, count_pos, none_at, one_at, squeeze, sum_both, sum_le, sum_none, sum_places, sum_same, sum_swap, sum_zero}

-- ---- what a missing placement is

pub missing_from : (targets : ℕ → ℕ → Bool) (table : Table) (b s : ℕ) → targets b s ≡ true → count_on s (sites_in table b) ≡ 0 → is_missing targets table b s ≡ true
missing_from targets table b s wanted none =
    and_from (targets b s) (not (is_on table b s)) wanted (ap not (le-ltb 0 (count_on s (sites_in table b)) (omega (arith, none))))

-- a placement that isn't missing, is met
pub met_from : (targets : ℕ → ℕ → Bool) (table : Table) (b s : ℕ) → targets b s ≡ true → is_missing targets table b s ≡ false → 0 < count_on s (sites_in table b)
met_from targets table b s wanted met = elim (cases_lt 0 (count_on s (sites_in table b))) [
  | inl some ↦ some
  | inr none ↦ absurd (both_ways (is_missing targets table b s) met (missing_from targets table b s wanted (omega arith)))
]

-- ---- one block

single_sums : (b n : ℕ) → sum_upto n (λ s. cond (b == s) 1 0) ≤ 1
single_sums b zero = omega arith
single_sums b (suc n) = elim (cases_eq b n) [
  | inl e ↦
      let past : sum_upto n (λ s. cond (b == s) 1 0) ≡ 0 =
      sum_zero (λ s. cond (b == s) 1 0) n (λ i low. zero_if (b == i) (apart_test b i (λ f. absurd (omega (arith, f, e, low))))) in
      omega (arith, one_if (b == n) (same_test b n e), past)
  | inr ne ↦ omega (arith, zero_if (b == n) (apart_test b n ne), single_sums b n)
]

-- a list has as many sites as it has on all boundaries, or more
row_sums : (n : ℕ) (sites : List Site) → sum_upto n (λ s. count_on s sites) ≤ length sites
row_sums n [] = omega (arith, sum_none n)
row_sums n (x ∷ xs) =
    omega (
      arith,
      sum_same (λ s. count_on s (x ∷ xs)) (λ s. cond (x.boundary == s) 1 0 + count_on s xs) n (λ s low. count_on-cons s x xs),
      sum_both (λ s. cond (x.boundary == s) 1 0) (λ s. count_on s xs) n,
      single_sums x.boundary n,
      row_sums n xs,
    )

one_or_none : (sites : List Site) → (has_site sites ≡ true) ⊎ (length sites ≡ 0)
one_or_none [] = inr refl
one_or_none (x ∷ xs) = inl refl

-- a block has no more sites than targets
row_bound : (targets : ℕ → Bool) (n : ℕ) (sites : List Site) → ((s : ℕ) → count_on s sites ≤ 1) → spare targets sites ≡ []
    → (has_site sites ≡ true → (s : ℕ) × (s < n) × (targets s ≡ true)) → sum_upto n (λ s. count_on s sites) ≤ count_upto n targets
row_bound targets n sites single none some = elim (cases_Bool (has_met targets sites)) [
  | inl met ↦
      let other : off_target targets sites ≡ [] = sym (spare_met targets sites met) ∙ none in
      sum_le (λ s. count_on s sites) (λ s. cond (targets s) 1 0) n
      (λ s low. elim (cases_Bool (targets s)) [
        | inl hit ↦ omega (arith, single s, one_at (targets s) hit)
        | inr miss ↦ omega (arith, no_other targets sites s other miss)
      ])
  | inr unmet ↦
      let short : length sites ≤ 1 = short_first sites (sym (spare_unmet targets sites unmet) ∙ none) in
      elim (one_or_none sites) [
        | inl one ↦ let t = some one in omega (arith, row_sums n sites, short, count_pos n t.0 targets t.1 t.2)
        | inr empty ↦ omega (arith, row_sums n sites, empty)
      ]
]

-- ---- lists of placements

in_filter : {X : Type 0} (test : X → Bool) (xs : List X) (x : X) → Contains xs x → test x ≡ true → Contains (filter test xs) x
in_filter test [] x (k, low, at) passes = absurd (omega (arith, low))
in_filter test (y ∷ ys) x (zero, low, at) passes = first (test y) refl
  where
    first : (b : Bool) → test y ≡ b → Contains (cond b (y ∷ filter test ys) (filter test ys)) x
    first true e = (0, omega arith, at)
    first false e = absurd (both_ways (test y) e (ap test at ∙ passes))
in_filter test (y ∷ ys) x (suc k, low, at) passes = later (test y) (in_filter test ys x (k, omega (arith, low), at) passes)
  where
    later : (b : Bool) → Contains (filter test ys) x → Contains (cond b (y ∷ filter test ys) (filter test ys)) x
    later true (j, below, there) = (suc j, omega (arith, below), there)
    later false there = there

in_map : {X Y : Type 0} (f : X → Y) (xs : List X) (x : X) → Contains xs x → Contains (map f xs) (f x)
in_map f [] x (k, low, at) = absurd (omega (arith, low))
in_map f (y ∷ ys) x (zero, low, at) = (0, omega arith, ap f at)
in_map f (y ∷ ys) x (suc k, low, at) = let rest = in_map f ys x (k, omega (arith, low), at) in (suc rest.0, omega (arith, rest.1), rest.2)

-- where none is found, each fails
none_first : {X : Type 0} (test : X → Bool) (y : X) (ys : List X) → find test (y ∷ ys) ≡ None → (test y ≡ false) × (find test ys ≡ None)
none_first test y ys none = by_test (test y) refl none
  where
    by_test : (b : Bool) → test y ≡ b → cond b (Some y) (find test ys) ≡ None → (test y ≡ false) × (find test ys ≡ None)
    by_test true e found = absurd (false≢true (sym (ap (λ o. is_some o) found)))
    by_test false e rest = (e, rest)

none_passes : {X : Type 0} (test : X → Bool) (xs : List X) (x : X) → find test xs ≡ None → Contains xs x → test x ≡ false
none_passes test [] x none (k, low, at) = absurd (omega (arith, low))
none_passes test (y ∷ ys) x none (zero, low, at) = sym (ap test at) ∙ (none_first test y ys none).0
none_passes test (y ∷ ys) x none (suc k, low, at) = none_passes test ys x (none_first test y ys none).1 (k, omega (arith, low), at)

-- a missing placement is in the list
pub listed_missing : (targets : ℕ → ℕ → Bool) (table : Table) (b s : ℕ) → b < table.shape.n → s < table.shape.b → is_missing targets table b s ≡ true
    → Contains (missing targets table) (record { block = b; boundary = s })
unfolding missing
listed_missing targets table b s low below is =
    in_parts (missing_of targets table) (range_with_len 0 table.shape.n) b (record { block = b; boundary = s }) (in_range table.shape.n b low)
    (in_map (λ t. record { block = b; boundary = t }) (filter (is_missing targets table b) (range_with_len 0 table.shape.b)) s
    (in_filter (is_missing targets table b) (range_with_len 0 table.shape.b) s (in_range table.shape.b s below) is))

-- ---- all blocks

module _ (targets : ℕ → ℕ → Bool) (table : Table) (ok : IsTable table) where
  pub used_places : (s : ℕ) → used_in table s ≡ sum_upto table.shape.n (λ b. count_on s (sites_in table b))
  used_places s = sum_places (count_on s) table.rows [] ∙ ap (λ (n : ℕ). sum_upto n (λ b. count_on s (sites_in table b))) ok.size

  -- the used slots are no more than the placements
  used_bound : AreTargets targets table → IsTidy targets table
      → sum_upto table.shape.b (used_in table) ≤ sum_upto table.shape.b (λ s. count_upto table.shape.n (λ b. targets b s))
  used_bound are tidy =
      omega (
        arith,
        sum_same (used_in table) (λ s. sum_upto table.shape.n (λ b. count_on s (sites_in table b))) table.shape.b (λ s low. used_places s),
        sum_swap (λ s b. count_on s (sites_in table b)) table.shape.b table.shape.n,
        sum_le (λ b. sum_upto table.shape.b (λ s. count_on s (sites_in table b))) (λ b. count_upto table.shape.b (targets b)) table.shape.n
            (λ b low. row_bound (targets b) table.shape.b (sites_in table b) (ok.one_site b) (tidy b low) (λ has. are.some b low has)),
        sum_swap (λ b s. cond (targets b s) 1 0) table.shape.n table.shape.b,
      )

  -- where no placement on a boundary is missing, it has a used slot for each
  placed_bound : (s : ℕ) → ((b : ℕ) → b < table.shape.n → is_missing targets table b s ≡ false) → count_upto table.shape.n (λ b. targets b s) ≤ used_in table s
  placed_bound s met =
      omega (
        arith,
        used_places s,
        sum_le (λ b. cond (targets b s) 1 0) (λ b. count_on s (sites_in table b)) table.shape.n
            (λ b low. elim (cases_Bool (targets b s)) [
              | inl hit ↦ omega (arith, one_at (targets b s) hit, met_from targets table b s hit (met b low))
              | inr miss ↦ omega (arith, none_at (targets b s) miss)
            ]),
      )

  -- where each boundary with a missing placement has more than K used slots, none is missing
  pub none_missing : AreTargets targets table → IsTidy targets table
      → ((s : ℕ) → s < table.shape.b → used_in table s ≤ table.shape.k → (b : ℕ) → b < table.shape.n → is_missing targets table b s ≡ false)
      → missing_in targets table ≡ 0
  none_missing are tidy full =
      let places : ℕ → ℕ = λ s. count_upto table.shape.n (λ b. targets b s) in
      let less : (s : ℕ) → s < table.shape.b → places s ≤ used_in table s = λ s low. elim (cases_lt table.shape.k (used_in table s)) [
        | inl over ↦ omega (arith, are.most s low, over)
        | inr room ↦ placed_bound s (full s low room)
      ] in
      let most : (s : ℕ) → s < table.shape.b → used_in table s ≤ table.shape.k = λ s low.
      omega (arith, squeeze places (used_in table) table.shape.b less (used_bound are tidy) s low, are.most s low) in
      sum_zero (λ b. count_upto table.shape.b (is_missing targets table b)) table.shape.n
      (λ b low. count_none table.shape.b (is_missing targets table b) (λ s below. full s below (most s below) b low))

  -- So where a round finds no placement to meet, none is missing: no block has to make room for another.
  pub two_steps_enough : AreTargets targets table → IsTidy targets table → next_placement targets table ≡ None → missing_in targets table ≡ 0
  two_steps_enough are tidy none = none_missing are tidy met
    where
      met : (s : ℕ) → s < table.shape.b → used_in table s ≤ table.shape.k → (b : ℕ) → b < table.shape.n → is_missing targets table b s ≡ false
      met s low room b below = elim (cases_Bool (is_missing targets table b s)) [
        | inl is ↦
            let full = none_passes (λ (p : Placement). nat_le (used_in table p.boundary) table.shape.k) (missing targets table) (record { block = b; boundary = s }) none
            (listed_missing targets table b s below low is) in
            absurd (both_ways (nat_le (used_in table s) table.shape.k) full (le-leb (used_in table s) table.shape.k room))
        | inr fine ↦ fine
      ]
