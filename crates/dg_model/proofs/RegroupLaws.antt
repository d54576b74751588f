-- What is left of a table without some of its boundaries is a table. A library for the crates above.
use Rattle.std.proofs.Common.{◌≡◌, ◌≢◌, ◌<◌, ◌≤◌, ◌+◌, ◌*◌, ◌==◌, inl, inr, ℕ, zero, suc, true, false, cond, List, [], ◌∷◌, get_or, map, filter, not, length, refl, sym, ◌∙◌, ap, subst, arith}
use Rattle.std.specs.List.{Contains, range_with_len, sum_by}
use Rattle.std.specs.List.Sorted.{IsStrictlyIncreasing}
use Rattle.std.proofs.Math.ListN.{get_or-map}
use Rattle.std.proofs.Math.Nat.{mul-le-mul_right}
use Rattle.std.proofs.lemmas.List.{length-map}
use Rattle.std.proofs.lemmas.List.FromFn.{get_or-range_with_len, length-range_with_len}
use Rattle.std.proofs.lemmas.List.Kept.{IsStrictlyIncreasing-filter}
use Rattle.std.proofs.lemmas.Bool.{cases_Bool, cases_lt, false≢true}
use Rattle.std.proofs.lemmas.Bool.Decides.{nat_tests}
use Rattle.std.proofs.lemmas.List.Elements.{Contains-append_cases, Contains-append_right}
use Rattle.std.proofs.lemmas.List.Sums.{passes_at_first, position_or_len_is, sum_by-cons}
use Rattle.dg_model.specs.Lives.{left_of, place_in}
use Rattle.dg_model.specs.Members.{is_lost}
use Rattle.dg_model.specs.Regroups.{is_left, site_left, sites_left, table_left}
use Rattle.dg_model.specs.Tables.{IsTable, StandsIn, Table, count_on, sites_in, used_in}
use Rattle.dg_model.specs.declared.members.MemberState.{MemberState}
use Rattle.dg_model.specs.declared.shapes.Shape.{Shape}
use Rattle.dg_model.specs.declared.sites.Site.{Site}
use Rattle.dg_model.proofs.SiteLists.{apart_test, count_on-cons, one_if, same_test, zero_if}

-- ---- places

pub place_at : (left : List ℕ) (x : ℕ) → place_in left x < length left → get_or left (place_in left x) 0 ≡ x
place_at left x low = let e = passes_at_first (λ t. t == x) left 0 low in grind (arith, nat_tests)

pub rises : (xs : List ℕ) → IsStrictlyIncreasing xs → (k s : ℕ) → k < s → s < length xs → get_or xs k 0 < get_or xs s 0
rises xs inc k zero low within = absurd (omega (arith, low))
rises xs inc k (suc s) low within =
    let next : s + 1 ≡ suc s = omega arith in
    let last : get_or xs s 0 < get_or xs (suc s) 0 = subst (λ j. get_or xs s 0 < get_or xs j 0) next (inc s (omega (arith, within))) in
    elim (cases_lt k s) [
      | inl less ↦ omega (arith, rises xs inc k s less (omega (arith, within)), last)
      | inr same ↦ let e : k ≡ s = omega (arith, low, same) in subst (λ j. get_or xs j 0 < get_or xs (suc s) 0) (sym e) last
    ]

pub place_of_at : (left : List ℕ) → IsStrictlyIncreasing left → (s : ℕ) → s < length left → place_in left (get_or left s 0) ≡ s
place_of_at left inc s low =
    position_or_len_is (λ t. t == get_or left s 0) left s 0 (omega (arith, low))
    (λ k less. apart_test (get_or left k 0) (get_or left s 0) (λ e. (let r = rises left inc k s less low in omega (arith, e, r))))
    (λ l. same_test (get_or left s 0) (get_or left s 0) refl)

left_low : (left : List ℕ) (x : ℕ) → is_left left x ≡ true → place_in left x < length left
left_low left x e = grind (arith, nat_tests)

low_left : (left : List ℕ) (x : ℕ) → place_in left x < length left → is_left left x ≡ true
low_left left x e = grind (arith, nat_tests)

-- ---- one list of sites

step_in : (left : List ℕ) (y : Site) (ys : List Site) → is_left left y.boundary ≡ true → sites_left left (y ∷ ys) ≡ site_left left y ∷ sites_left left ys
step_in left y ys e = ap (λ b. map (site_left left) (cond b (y ∷ filter (λ site. is_left left site.boundary) ys) (filter (λ site. is_left left site.boundary) ys))) e

step_out : (left : List ℕ) (y : Site) (ys : List Site) → is_left left y.boundary ≡ false → sites_left left (y ∷ ys) ≡ sites_left left ys
step_out left y ys e = ap (λ b. map (site_left left) (cond b (y ∷ filter (λ site. is_left left site.boundary) ys) (filter (λ site. is_left left site.boundary) ys))) e

-- on a new place stand just the sites of the boundary at it
pub count_left : (left : List ℕ) → IsStrictlyIncreasing left → (s : ℕ) → s < length left → (sites : List Site)
    → count_on s (sites_left left sites) ≡ count_on (get_or left s 0) sites
count_left left inc s low [] = refl
count_left left inc s low (y ∷ ys) = elim (cases_Bool (is_left left y.boundary)) [
  | inl stays ↦
      ap (count_on s) (step_in left y ys stays) ∙ both (left_low left y.boundary stays) (count_left left inc s low ys)
  | inr out ↦
      let none = zero_if (y.boundary == get_or left s 0) (apart_test y.boundary (get_or left s 0) (λ e. absurd (away e out))) in
      omega (arith, ap (count_on s) (step_out left y ys out), count_left left inc s low ys, count_on-cons (get_or left s 0) y ys, none)
]
  where
    away : y.boundary ≡ get_or left s 0 → is_left left y.boundary ≡ false → ⊥
    away e out =
        let place : place_in left y.boundary ≡ s = ap (place_in left) e ∙ place_of_at left inc s low in
        false≢true (sym out ∙ low_left left y.boundary (omega (arith, place, low)))

    both : place_in left y.boundary < length left → count_on s (sites_left left ys) ≡ count_on (get_or left s 0) ys → count_on s (site_left left y ∷ sites_left left ys) ≡ count_on (get_or left s 0) (y ∷ ys)
    both inside rest = elim (cases_Bool (place_in left y.boundary == s)) [
      | inl here ↦
          let place : place_in left y.boundary ≡ s = grind (arith, nat_tests) in
          let at : y.boundary ≡ get_or left s 0 = sym (place_at left y.boundary inside) ∙ ap (λ k. get_or left k 0) place in
          omega (
            arith,
            count_on-cons s (site_left left y) (sites_left left ys),
            one_if (place_in left y.boundary == s) here,
            rest,
            count_on-cons (get_or left s 0) y ys,
            one_if (y.boundary == get_or left s 0) (same_test y.boundary (get_or left s 0) at),
          )
      | inr there ↦
          let apart : y.boundary ≢ get_or left s 0 = λ e. (let place : place_in left y.boundary ≡ s = ap (place_in left) e ∙ place_of_at left inc s low in
          false≢true (sym there ∙ same_test (place_in left y.boundary) s place)) in
          omega (
            arith,
            count_on-cons s (site_left left y) (sites_left left ys),
            zero_if (place_in left y.boundary == s) there,
            rest,
            count_on-cons (get_or left s 0) y ys,
            zero_if (y.boundary == get_or left s 0) (apart_test y.boundary (get_or left s 0) apart),
          )
    ]

-- behind the last place there is none
pub count_behind : (left : List ℕ) (s : ℕ) → length left ≤ s → (sites : List Site) → count_on s (sites_left left sites) ≡ 0
count_behind left s high [] = refl
count_behind left s high (y ∷ ys) = elim (cases_Bool (is_left left y.boundary)) [
  | inl stays ↦
      let inside = left_low left y.boundary stays in
      let apart = zero_if (place_in left y.boundary == s) (apart_test (place_in left y.boundary) s (λ e. omega (arith, e, inside, high))) in
      omega (arith, ap (count_on s) (step_in left y ys stays), count_on-cons s (site_left left y) (sites_left left ys), apart, count_behind left s high ys)
  | inr out ↦ omega (arith, ap (count_on s) (step_out left y ys out), count_behind left s high ys)
]

-- each site that is left was one on a boundary that is
pub record WasSite (left : List ℕ) (sites : List Site) (x : Site) : Type 0 where
  pub old : Site
  pub there : Contains sites old
  pub inside : place_in left old.boundary < length left
  pub is : x ≡ site_left left old

pub was_site : (left : List ℕ) (sites : List Site) (x : Site) → Contains (sites_left left sites) x → WasSite left sites x
was_site left [] x has = let low = has.1 in absurd (omega arith)
was_site left (y ∷ ys) x has = elim (cases_Bool (is_left left y.boundary)) [
  | inl stays ↦ elim (Contains-append_cases (site_left left y ∷ []) (sites_left left ys) x (subst (λ (l : List Site). Contains l x) (step_in left y ys stays) has)) [
    | inl first ↦ record { old = y; there = (0, omega arith, refl); inside = left_low left y.boundary stays; is = sym (only first) }
    | inr later ↦ more (was_site left ys x later)
  ]
  | inr out ↦ more (was_site left ys x (subst (λ (l : List Site). Contains l x) (step_out left y ys out) has))
]
  where
    only : Contains (site_left left y ∷ []) x → site_left left y ≡ x
    only h = let first : h.0 ≡ 0 = let low = h.1 in omega arith in rw first at h.2

    more : WasSite left ys x → WasSite left (y ∷ ys) x
    more h = record { old = h.old; there = Contains-append_right (y ∷ []) ys h.old h.there; inside = h.inside; is = h.is }

-- ---- the table

pub sites_of_left : (left : List ℕ) (table : Table) (b : ℕ) → sites_in (table_left left table) b ≡ sites_left left (sites_in table b)
sites_of_left left table b = get_or-map (sites_left left) table.rows b []

pub stood : (left : List ℕ) (table : Table) (b s slot : ℕ) → StandsIn (table_left left table) b s slot → s < length left → StandsIn table b (get_or left s 0) slot
stood left table b s slot stands low =
    let was = was_site left (sites_in table b) (record { boundary = s; slot = slot })
    (subst (λ (l : List Site). Contains l (record { boundary = s; slot = slot })) (sites_of_left left table b) stands) in
    let place : s ≡ place_in left was.old.boundary = ap (λ (x : Site). x.boundary) was.is in
    let at : was.old.boundary ≡ get_or left s 0 = sym (place_at left was.old.boundary was.inside) ∙ ap (λ k. get_or left k 0) (sym place) in
    let same : slot ≡ was.old.slot = ap (λ (x : Site). x.slot) was.is in
    subst (λ (x : Site). Contains (sites_in table b) x) (λ i. record { boundary = at i; slot = sym same i }) was.there

used_rows : (left : List ℕ) → IsStrictlyIncreasing left → (s : ℕ) → s < length left → (rows : List (List Site))
    → sum_by (count_on s) (map (sites_left left) rows) ≡ sum_by (count_on (get_or left s 0)) rows
used_rows left inc s low [] = refl
used_rows left inc s low (row ∷ rows) =
    omega (
      arith,
      sum_by-cons (count_on s) (sites_left left row) (map (sites_left left) rows),
      sum_by-cons (count_on (get_or left s 0)) row rows,
      count_left left inc s low row,
      used_rows left inc s low rows,
    )

-- as many slots are used on each as were
pub used_left : (left : List ℕ) (table : Table) → IsStrictlyIncreasing left → (s : ℕ) → s < length left
    → used_in (table_left left table) s ≡ used_in table (get_or left s 0)
used_left left table inc s low = used_rows left inc s low table.rows

stood_low : (left : List ℕ) (table : Table) (b s slot : ℕ) → StandsIn (table_left left table) b s slot → s < length left
stood_low left table b s slot stands =
    let was = was_site left (sites_in table b) (record { boundary = s; slot = slot })
    (subst (λ (l : List Site). Contains l (record { boundary = s; slot = slot })) (sites_of_left left table b) stands) in
    let place : s ≡ place_in left was.old.boundary = ap (λ (x : Site). x.boundary) was.is in
    omega (arith, place, was.inside)

-- where the boundaries that are left are enough, it is a table
pub left_is_table : (left : List ℕ) (table : Table) → IsTable table → IsStrictlyIncreasing left → length left ≤ table.shape.b
    → table.shape.m ≤ length left → 2 ≤ length left → table.shape.n ≤ length left * table.shape.k → IsTable (table_left left table)
left_is_table left table t inc few places two room = record {
  shape = record {
    block = t.shape.block;
    least_blocks = t.shape.least_blocks;
    most_blocks = t.shape.most_blocks;
    least_boundaries = two;
    most_boundaries = omega (arith, few, t.shape.most_boundaries);
    least_slots = t.shape.least_slots;
    most_slots = t.shape.most_slots;
    room = room;
    sites = omega (arith, mul-le-mul_right table.shape.k few, t.shape.sites);
    least_places = t.shape.least_places;
    most_places = places;
  };
  size = length-map table.rows (sites_left left) ∙ t.size;
  boundaries = stood_low left table;
  slots = λ b s slot stands. t.slots b (get_or left s 0) slot (stood left table b s slot stands (stood_low left table b s slot stands));
  one_block = λ a b s slot x y. (let low = stood_low left table a s slot x in
      t.one_block a b (get_or left s 0) slot (stood left table a s slot x low) (stood left table b s slot y low));
  one_site = λ b s. elim (cases_lt s (length left)) [
    | inl low ↦ omega (arith, ap (count_on s) (sites_of_left left table b), count_left left inc s low (sites_in table b), t.one_site b (get_or left s 0))
    | inr high ↦ omega (arith, ap (count_on s) (sites_of_left left table b), count_behind left s high (sites_in table b))
  ];
  used = λ s. elim (cases_lt s (length left)) [
    | inl low ↦ omega (arith, used_left left table inc s low, t.used (get_or left s 0))
    | inr high ↦ omega (arith, none_behind left s high table.rows)
  ];
}
  where
    none_behind : (left : List ℕ) (s : ℕ) → length left ≤ s → (rows : List (List Site)) → sum_by (count_on s) (map (sites_left left) rows) ≡ 0
    none_behind left s high [] = refl
    none_behind left s high (row ∷ rows) =
        omega (
          arith,
          sum_by-cons (count_on s) (sites_left left row) (map (sites_left left) rows),
          count_behind left s high row,
          none_behind left s high rows,
        )

-- the places of the boundaries that aren't lost ascend, and there are no more of them than boundaries
pub left_ascend : (shape : Shape) (members : ℕ → MemberState) → IsStrictlyIncreasing (left_of shape members)
left_ascend shape members = IsStrictlyIncreasing-filter (λ x. not (is_lost members x)) (range_with_len 0 shape.b) (ascend shape.b)
  where
    ascend : (b : ℕ) → IsStrictlyIncreasing (range_with_len 0 b)
    ascend b k low =
        let long = length-range_with_len 0 b in
        omega (arith, get_or-range_with_len 0 b k 0 (omega (arith, low, long)), get_or-range_with_len 0 b (k + 1) 0 (omega (arith, low, long)))
