-- Actions, one list after another.
use Rattle.std.proofs.Common.{◌≡◌, ◌<◌, ◌≤◌, ◌+◌, ◌⊎◌, ℕ, zero, suc, Bool, true, false, cond, List, [], ◌∷◌, ◌++◌, map, inl, inr, refl, sym, ◌∙◌, ap, arith, leb}
use Rattle.std.specs.Prelude.{Some, None, find}
use Rattle.std.specs.List.{filter, flat_map, range_with_len}
use Rattle.std.proofs.lemmas.Bool.{cases_Bool, cases_eq, cases_lt, le-leb, lt-leb}
use Rattle.dg_model.specs.Moves.{Action, IsTidy, copy_to, done, give_ups, is_missing, meeting, missing, missing_of, next_placement, spare, tidying}
use Rattle.dg_model.specs.Plans.{Placement}
use Rattle.dg_model.specs.Tables.{IsLowestFree, Table, put_site, sites_in, used_in}
use Rattle.dg_model.specs.declared.sites.Site.{Site}
use Rattle.dg_model.proofs.ActionLists.{tidying_below, tidying_is, tidying_more}
use Rattle.dg_model.proofs.FreeLaws.{lowest_free_found}
use Rattle.dg_move.specs.Turns.{IsNext, move_to}

-- a copy to the lowest free slot is done so
pub copied_is : (old new : Table) (b s : ℕ) (site : Site) → site.boundary ≡ s → IsLowestFree old s site.slot → site.slot ≤ old.shape.k
    → new ≡ put_site old b site → new ≡ done old (copy_to b s)
copied_is old new b s site at lowest within put =
    put ∙ ap (put_site old b)
    (ap (λ (x : ℕ). site_at x site.slot) at ∙ ap (λ (y : ℕ). site_at s y) (sym (lowest_free_found old s site.slot within lowest)))
  where
    site_at : ℕ → ℕ → Site
    site_at boundary slot = record { boundary = boundary; slot = slot }

-- ---- what blocks give up first

none_below : (targets : ℕ → ℕ → Bool) (table : Table) (k : ℕ) → k ≤ table.shape.n → IsTidy targets table → tidying_below targets table k ≡ []
none_below targets table zero within tidy = refl
none_below targets table (suc k) within tidy =
    tidying_more targets table k (suc k) (omega arith)
    ∙ ap (λ (xs : List Action). xs ++ give_ups k (spare (targets k) (sites_in table k))) (none_below targets table k (omega (arith, within)) tidy)
    ∙ ap (λ (xs : List Site). give_ups k xs) (tidy k (omega (arith, within)))

-- where no block has a site that it can do without, there is nothing to give up
pub tidying_none : (targets : ℕ → ℕ → Bool) (table : Table) → IsTidy targets table → tidying targets table ≡ []
tidying_none targets table tidy = tidying_is targets table ∙ none_below targets table table.shape.n (omega arith) tidy

-- ---- the next placement

abbrev fits : Table → Placement → Bool
fits table p = leb (used_in table p.boundary) table.shape.k

find_skip : (test : Placement → Bool) (xs ys : List Placement) → find test xs ≡ None → find test (xs ++ ys) ≡ find test ys
find_skip test [] ys none = refl
find_skip test (x ∷ xs) ys none = elim (cases_Bool (test x)) [
  | inl hit ↦ let e = sym (ap (λ (v : Bool). cond v (Some x) (find test xs)) hit) ∙ none in absurd (cc)
  | inr miss ↦
      ap (λ (v : Bool). cond v (Some x) (find test (xs ++ ys))) miss
      ∙ find_skip test xs ys (sym (ap (λ (v : Bool). cond v (Some x) (find test xs)) miss) ∙ none)
]

find_hit : (test : Placement → Bool) (xs ys : List Placement) (p : Placement) → find test xs ≡ Some p → find test (xs ++ ys) ≡ Some p
find_hit test [] ys p found = absurd (cc)
find_hit test (x ∷ xs) ys p found = elim (cases_Bool (test x)) [
  | inl hit ↦ ap (λ (v : Bool). cond v (Some x) (find test (xs ++ ys))) hit ∙ sym (ap (λ (v : Bool). cond v (Some x) (find test xs)) hit) ∙ found
  | inr miss ↦
      ap (λ (v : Bool). cond v (Some x) (find test (xs ++ ys))) miss
      ∙ find_hit test xs ys p (sym (ap (λ (v : Bool). cond v (Some x) (find test xs)) miss) ∙ found)
]

module _ (mk : ℕ → Placement) (keep : ℕ → Bool) (test : Placement → Bool) where
  abbrev listed : ℕ → ℕ → List Placement
  listed a n = map mk (filter keep (range_with_len a n))

  abbrev listed_by : Bool → ℕ → ℕ → List Placement
  listed_by v a n = map mk (cond v (a ∷ filter keep (range_with_len (a + 1) n)) (filter keep (range_with_len (a + 1) n)))

  none_listed : (a n : ℕ) → ((s : ℕ) → a ≤ s → s < a + n → keep s ≡ true → test (mk s) ≡ false) → find test (listed a n) ≡ None
  none_listed a zero none = refl
  none_listed a (suc n) none = elim (cases_Bool (keep a)) [
    | inl hit ↦
        ap (λ (v : Bool). find test (listed_by v a n)) hit
        ∙ ap (λ (v : Bool). cond v (Some (mk a)) (find test (listed (a + 1) n))) (none a (omega arith) (omega arith) hit)
        ∙ none_listed (a + 1) n (λ s low high. none s (omega arith) (omega arith))
    | inr miss ↦ ap (λ (v : Bool). find test (listed_by v a n)) miss ∙ none_listed (a + 1) n (λ s low high. none s (omega arith) (omega arith))
  ]

  first_listed : (a n t : ℕ) → a ≤ t → t < a + n → keep t ≡ true → test (mk t) ≡ true → ((s : ℕ) → a ≤ s → s < t → keep s ≡ true → test (mk s) ≡ false) → find test (listed a n) ≡ Some (mk t)
  first_listed a zero t low high kept passes none = absurd (omega arith)
  first_listed a (suc n) t low high kept passes none = elim (cases_eq a t) [
    | inl at ↦
        ap (λ (v : Bool). find test (listed_by v a n)) (ap keep at ∙ kept)
        ∙ ap (λ (v : Bool). cond v (Some (mk a)) (find test (listed (a + 1) n))) (ap (λ (x : ℕ). test (mk x)) at ∙ passes)
        ∙ ap (λ (x : ℕ). Some (mk x)) at
    | inr off ↦
        let rest = first_listed (a + 1) n t (omega (arith, low, off)) (omega (arith, high)) kept passes (λ s l h. none s (omega (arith, l)) h) in
        elim (cases_Bool (keep a)) [
          | inl hit ↦
              ap (λ (v : Bool). find test (listed_by v a n)) hit
              ∙ ap (λ (v : Bool). cond v (Some (mk a)) (find test (listed (a + 1) n))) (none a (omega arith) (omega (arith, low, off)) hit)
              ∙ rest
          | inr miss ↦ ap (λ (v : Bool). find test (listed_by v a n)) miss ∙ rest
        ]
  ]

module _ (targets : ℕ → ℕ → Bool) (table : Table) (b t : ℕ) (next : IsNext targets table b t) where
  not_fits : (c s : ℕ) → (used_in table s ≤ table.shape.k → ⊥) → fits table (record { block = c; boundary = s }) ≡ false
  not_fits c s none = lt-leb (used_in table s) table.shape.k (over (cases_lt table.shape.k (used_in table s)))
    where
      over : (table.shape.k < used_in table s) ⊎ (used_in table s ≤ table.shape.k) → table.shape.k < used_in table s
      over (inl low) = low
      over (inr le) = absurd (none le)

  none_before : (c : ℕ) → c < b → find (fits table) (missing_of targets table c) ≡ None
  none_before c lower =
      none_listed (λ s. record { block = c; boundary = s }) (is_missing targets table c) (fits table) 0 table.shape.b
      (λ s low high missing. not_fits c s
      (λ room. elim (next.least c s (omega (arith, high)) missing room) [
        | inl less ↦ absurd (omega (arith, less, lower))
        | inr (same, upper) ↦ absurd (omega (arith, same, lower))
      ]))

  first_there : find (fits table) (missing_of targets table b) ≡ Some (record { block = b; boundary = t })
  first_there =
      first_listed (λ s. record { block = b; boundary = s }) (is_missing targets table b) (fits table) 0 table.shape.b t (omega arith) (let w = next.boundary in omega arith)
      next.missing (le-leb (used_in table t) table.shape.k next.room)
      (λ s low lower missing. not_fits b s
      (λ room. elim (next.least b s (let w = next.boundary in omega arith) missing room) [
        | inl less ↦ absurd (omega arith)
        | inr (same, upper) ↦ absurd (omega (arith, upper, lower))
      ]))

  found_from : (a n : ℕ) → a ≤ b → b < a + n → find (fits table) (flat_map (missing_of targets table) (range_with_len a n)) ≡ Some (record { block = b; boundary = t })
  found_from a zero low high = absurd (omega arith)
  found_from a (suc n) low high = elim (cases_eq a b) [
    | inl at ↦
        find_hit (fits table) (missing_of targets table a) (flat_map (missing_of targets table) (range_with_len (a + 1) n)) (record { block = b; boundary = t })
        (ap (λ (c : ℕ). find (fits table) (missing_of targets table c)) at ∙ first_there)
    | inr off ↦
        find_skip (fits table) (missing_of targets table a) (flat_map (missing_of targets table) (range_with_len (a + 1) n)) (none_before a (omega (arith, low, off)))
        ∙ found_from (a + 1) n (omega (arith, low, off)) (omega (arith, high))
  ]

  next_is : next_placement targets table ≡ Some (record { block = b; boundary = t })
  unfolding missing
  next_is = found_from 0 table.shape.n (omega arith) (let w = next.block in omega arith)

  pub meeting_is : meeting targets table (next_placement targets table) ≡ move_to targets table b t
  meeting_is = ap (meeting targets table) next_is
