-- First sites: a block is sited in one way, its site is on a boundary of the array, and where no block is evicted the site is computed.
-- A library for the crates above.
use Rattle.std.proofs.Common.{◌≡◌, ◌<◌, ◌≤◌, ◌-◌, ◌%◌, ◌++◌, inl, inr, ℕ, zero, suc, Bool, true, false, cond, List, [], ◌∷◌, length, take, refl, sym, ◌∙◌, ap, subst, arith}
use Rattle.std.specs.Prelude.{All, slice_set, slice_index_or, replicate, if◌then◌else◌, nat_lt}
use Rattle.std.proofs.lemmas.Bool.{cases_lt, cases_order, cases_eq, cases_Bool, false≢true, ltb-true, ltb-false}
use Rattle.std.proofs.lemmas.List.{length-set, length-replicate, get_or-set_same, get_or-set_other, set_past}
use Rattle.std.proofs.lemmas.List.Elements.{All-same, All-take, All-append, All-cons, All-nil}
use Rattle.std.proofs.lemmas.Nat.{mod_below}
use Rattle.dg_model.specs.Tables.{Table, IsLowestFree, empty_table, lowest_free, put_site, sites_in, used_in}
use Rattle.dg_model.specs.Sites.{has_site, IsFewest, IsFirstBoundary, IsLeastSpread, Evicts, without_last, IsGivenFirst, IsSited}
use Rattle.dg_model.specs.declared.shapes.Shape.{Shape}
use Rattle.dg_model.specs.declared.sites.Site.{Site}
use Rattle.dg_model.proofs.FreeLaws.{lowest_free_is, one_lowest_free}

-- ---- one way

pub one_fewest : (table : Table) (s t : ℕ) → IsFewest table s → IsFewest table t → s ≡ t
one_fewest table s t a b = elim (cases_order s t) [
  | inl same ↦ same
  | inr apart ↦ elim apart [
    | inl low ↦ let one = b.lowest s low in let two = a.fewest t b.within in absurd (omega arith)
    | inr high ↦ let one = a.lowest t high in let two = b.fewest s a.within in absurd (omega arith)
  ]
]

pub one_first_boundary : (table : Table) (b s t : ℕ) → IsFirstBoundary table b s → IsFirstBoundary table b t → s ≡ t
one_first_boundary table b s t x y = elim (cases_lt (used_in table (b % table.shape.b)) table.shape.k) [
  | inl room ↦ x.own room ∙ sym (y.own room)
  | inr full ↦ one_fewest table s t (x.other full) (y.other full)
]

pub one_least_spread : (table : Table) (c d : ℕ) → IsLeastSpread table c → IsLeastSpread table d → c ≡ d
one_least_spread table c d x y = elim (cases_order c d) [
  | inl same ↦ same
  | inr apart ↦ elim apart [
    | inl low ↦ let one = y.least c low in let two = x.more in absurd (omega arith)
    | inr high ↦ let one = x.least d high in let two = y.more in absurd (omega arith)
  ]
]

pub evicts_same : (m n : ℕ) (old x y : Table) → Evicts m old x → Evicts n old y → x ≡ y
evicts_same zero zero old x y p q = p.1 ∙ sym q.1
evicts_same zero (suc n) old x y p q = absurd (p.0 q.0)
evicts_same (suc m) zero old x y p q = absurd (q.0 p.0)
evicts_same (suc m) (suc n) old x y p q =
    let same : q.1.0 ≡ p.1.0 = one_least_spread old q.1.0 p.1.0 q.1.1 p.1.1 in
    evicts_same m n (without_last old p.1.0) x y p.1.2 (subst (λ (c : ℕ). Evicts n (without_last old c) y) same q.1.2)

put_same : (x y : Table) (b : ℕ) (s t : Site) → x ≡ y → s ≡ t → put_site x b s ≡ put_site y b t
put_same x y b s t e f = ap (λ (z : Table). put_site z b s) e ∙ ap (λ (z : Site). put_site y b z) f

given_same : (old x y : Table) (b : ℕ) → IsGivenFirst old b x → IsGivenFirst old b y → x ≡ y
given_same old x y b p q =
    let mid : q.middle ≡ p.middle = evicts_same q.evictions p.evictions old q.middle p.middle q.evicted p.evicted in
    let on : p.site.boundary ≡ q.site.boundary =
    one_first_boundary p.middle b p.site.boundary q.site.boundary p.boundary (subst (λ (t : Table). IsFirstBoundary t b q.site.boundary) mid q.boundary) in
    let free : IsLowestFree p.middle p.site.boundary q.site.slot =
    subst (λ (s : ℕ). IsLowestFree p.middle s q.site.slot) (sym on) (subst (λ (t : Table). IsLowestFree t q.site.boundary q.site.slot) mid q.slot) in
    let slot : p.site.slot ≡ q.site.slot = one_lowest_free p.middle p.site.boundary p.site.slot q.site.slot p.slot free in
    let site : p.site ≡ q.site = λ i. record { boundary = on i; slot = slot i } in
    p.given ∙ put_same p.middle q.middle b p.site q.site (sym mid) site ∙ sym q.given

pub sited_same : (old x y : Table) (b : ℕ) → IsSited old b x → IsSited old b y → x ≡ y
sited_same old x y b p q = elim (cases_Bool (has_site (sites_in old b))) [
  | inl has ↦ p.kept has ∙ sym (q.kept has)
  | inr none ↦ given_same old x y b (p.first none) (q.first none)
]

-- ---- inside the array

-- each of the sites is on one of the first n boundaries
abbrev pub AreBelow : ℕ → List Site → Type 0
AreBelow n sites = All (λ (site : Site). site.boundary < n) sites

-- the table has the array's numbers, a row for each block, and sites on its boundaries alone
pub record IsInside (shape : Shape) (table : Table) : Type 0 where
  pub numbers : table.shape ≡ shape
  pub rows : length table.rows ≡ shape.n
  pub sites : (b : ℕ) → AreBelow shape.b (sites_in table b)

same_below : (n : ℕ) (xs ys : List Site) → xs ≡ ys → AreBelow n ys → AreBelow n xs
same_below n xs ys e h = All-same (λ (site : Site). site.boundary < n) xs ys e h

set_below : (n : ℕ) (rows : List (List Site)) (c b : ℕ) (xs : List Site) → AreBelow n xs → AreBelow n (slice_index_or rows b [])
    → AreBelow n (slice_index_or (slice_set rows c xs) b [])
set_below n rows c b xs new old = elim (cases_eq b c) [
  | inl same ↦ elim (cases_lt c (length rows)) [
    | inl low ↦
        same_below n (slice_index_or (slice_set rows c xs) b []) xs
        (ap (λ (k : ℕ). slice_index_or (slice_set rows c xs) k []) same ∙ get_or-set_same rows c xs [] low) new
    | inr past ↦
        same_below n (slice_index_or (slice_set rows c xs) b []) (slice_index_or rows b [])
        (ap (λ (l : List (List Site)). slice_index_or l b []) (set_past rows c xs past)) old
  ]
  | inr other ↦ same_below n (slice_index_or (slice_set rows c xs) b []) (slice_index_or rows b []) (get_or-set_other rows c b xs [] other) old
]

-- a row is written anew
pub row_inside : (shape : Shape) (table : Table) (c : ℕ) (xs : List Site) → IsInside shape table → AreBelow shape.b xs
    → IsInside shape (record table { rows = slice_set table.rows c xs })
row_inside shape table c xs was new = record {
  numbers = was.numbers;
  rows = length-set table.rows c xs ∙ was.rows;
  sites = λ b. set_below shape.b table.rows c b xs new (was.sites b);
}

pub evicts_inside : (shape : Shape) (count : ℕ) (old new : Table) → IsInside shape old → Evicts count old new → IsInside shape new
evicts_inside shape zero old new was h = subst (λ (t : Table). IsInside shape t) (sym h.1) was
evicts_inside shape (suc count) old new was h =
    evicts_inside shape count (without_last old h.1.0) new
    (row_inside shape old h.1.0 (take (length (sites_in old h.1.0) - 1) (sites_in old h.1.0)) was
    (All-take (λ (site : Site). site.boundary < shape.b) (length (sites_in old h.1.0) - 1) (sites_in old h.1.0) (was.sites h.1.0)))
    h.1.2

first_below : (table : Table) (b s : ℕ) → 0 < table.shape.b → IsFirstBoundary table b s → s < table.shape.b
first_below table b s some is = elim (cases_lt (used_in table (b % table.shape.b)) table.shape.k) [
  | inl room ↦ let own = is.own room in let below = mod_below b table.shape.b some in omega arith
  | inr full ↦ (is.other full).within
]

-- a list of sites with one more has a site
pub has_last : (xs : List Site) (x : Site) → has_site (xs ++ x ∷ []) ≡ true
has_last [] x = refl
has_last (y ∷ ys) x = refl

-- a table whose sites are inside, in which block b has one
abbrev pub IsInsideWith : Shape → ℕ → Table → Type 0
IsInsideWith shape b table = IsInside shape table × (has_site (sites_in table b) ≡ true)

given_inside : (shape : Shape) (old : Table) (b : ℕ) (new : Table) → 0 < shape.b → b < shape.n → IsInside shape old → IsGivenFirst old b new
    → IsInsideWith shape b new
given_inside shape old b new some below was g =
    let mid : IsInside shape g.middle = evicts_inside shape g.evictions old g.middle was g.evicted in
    let some' : 0 < g.middle.shape.b = subst (λ (t : Shape). 0 < t.b) (sym mid.numbers) some in
    let on : g.site.boundary < shape.b =
    subst (λ (t : Shape). g.site.boundary < t.b) mid.numbers (first_below g.middle b g.site.boundary some' g.boundary) in
    let all : AreBelow shape.b (sites_in g.middle b ++ g.site ∷ []) =
    All-append (λ (site : Site). site.boundary < shape.b) (sites_in g.middle b) (g.site ∷ []) (mid.sites b)
    (All-cons (λ (site : Site). site.boundary < shape.b) g.site [] on (All-nil (λ (site : Site). site.boundary < shape.b))) in
    let low : b < length g.middle.rows = omega (arith, mid.rows) in
    let put : IsInside shape (put_site g.middle b g.site) = row_inside shape g.middle b (sites_in g.middle b ++ g.site ∷ []) mid all in (
      subst (λ (t : Table). IsInside shape t) (sym g.given) put,
      ap (λ (t : Table). has_site (sites_in t b)) g.given
          ∙ ap has_site (get_or-set_same g.middle.rows b (sites_in g.middle b ++ g.site ∷ []) [] low)
          ∙ has_last (sites_in g.middle b) g.site,
    )

-- a block that is sited stands on boundaries of the array, and somewhere
pub sited_inside : (shape : Shape) (old : Table) (b : ℕ) (new : Table) → 0 < shape.b → b < shape.n → IsInside shape old → IsSited old b new
    → IsInsideWith shape b new
sited_inside shape old b new some below was is = elim (cases_Bool (has_site (sites_in old b))) [
  | inl has ↦ (
    subst (λ (t : Table). IsInside shape t) (sym (is.kept has)) was,
    ap (λ (t : Table). has_site (sites_in t b)) (is.kept has) ∙ has,
  )
  | inr none ↦ given_inside shape old b new some below was (is.first none)
]

pub empty_rows : (n b : ℕ) → ◌≡◌ {A = List Site} (slice_index_or (replicate n []) b []) []
empty_rows zero b = refl
empty_rows (suc n) zero = refl
empty_rows (suc n) (suc b) = empty_rows n b

pub empty_inside : (shape : Shape) → IsInside shape (empty_table shape)
empty_inside shape = record {
  numbers = refl;
  rows = length-replicate shape.n [];
  sites = λ b. same_below shape.b (sites_in (empty_table shape) b) [] (empty_rows shape.n b) (All-nil (λ (site : Site). site.boundary < shape.b));
}

-- ---- a first site, computed

-- of the first boundaries, so many of them, the one with the fewest used slots, the lowest number among equals
abbrev pub fewest_of : Table → ℕ → ℕ
fewest_of table zero = 0
fewest_of table (suc s) = let best = fewest_of table s in if nat_lt (used_in table s) (used_in table best) then s else best

-- the boundary of block b's first site
abbrev pub first_boundary : Table → ℕ → ℕ
first_boundary table b = if nat_lt (used_in table (b % table.shape.b)) table.shape.k then b % table.shape.b else fewest_of table table.shape.b

-- the table once block b has its first site, where none is evicted
abbrev pub first_table : Table → ℕ → Table
first_table table b = put_site table b (record { boundary = first_boundary table b; slot = lowest_free table (first_boundary table b) })

-- of so many first boundaries this is the one with the fewest used slots
pub record IsFewestOf (table : Table) (n s : ℕ) : Type 0 where
  pub within : s < n
  pub fewest : (t : ℕ) → t < n → used_in table s ≤ used_in table t
  pub lowest : (t : ℕ) → t < s → used_in table s < used_in table t

fewest_more : (table : Table) (n best : ℕ) (less : Bool) → nat_lt (used_in table n) (used_in table best) ≡ less → IsFewestOf table n best
    → IsFewestOf table (suc n) (cond less n best)
fewest_more table n best true e is =
    let low = ltb-true (used_in table n) (used_in table best) e in
    record {
      within = omega arith;
      fewest = λ t below. elim (cases_lt t n) [ inl old ↦ omega (arith, low, is.fewest t old) | inr new ↦ at_last t (omega (arith, new, below)) ];
      lowest = λ t below. omega (arith, low, is.fewest t below);
    }
  where
    at_last : (t : ℕ) → t ≡ n → used_in table n ≤ used_in table t
    at_last t same = let u = ap (used_in table) same in omega (arith, u)
fewest_more table n best false e is =
    let high = ltb-false (used_in table n) (used_in table best) e in
    record {
      within = omega (arith, is.within);
      fewest = λ t below. elim (cases_lt t n) [ inl old ↦ is.fewest t old | inr new ↦ at_last high t (omega (arith, new, below)) ];
      lowest = is.lowest;
    }
  where
    at_last : used_in table best ≤ used_in table n → (t : ℕ) → t ≡ n → used_in table best ≤ used_in table t
    at_last high t same = let u = ap (used_in table) same in omega (arith, u, high)

pub fewest_is : (table : Table) (n : ℕ) → IsFewestOf table (suc n) (fewest_of table (suc n))
fewest_is table zero = first (nat_lt (used_in table 0) (used_in table 0))
  where
    first : (less : Bool) → IsFewestOf table 1 (cond less 0 0)
    first true = record { within = omega arith; fewest = λ t below. (let same : t ≡ 0 = omega (arith, below) in let u = ap (used_in table) same in omega (arith, u)); lowest = λ t below. absurd (omega (arith, below)) }
    first false = record { within = omega arith; fewest = λ t below. (let same : t ≡ 0 = omega (arith, below) in let u = ap (used_in table) same in omega (arith, u)); lowest = λ t below. absurd (omega (arith, below)) }
fewest_is table (suc n) = fewest_more table (suc n) (fewest_of table (suc n)) (nat_lt (used_in table (suc n)) (used_in table (fewest_of table (suc n)))) refl (fewest_is table n)

pub fewest_at : (table : Table) → 0 < table.shape.b → IsFewest table (fewest_of table table.shape.b)
fewest_at table some = by_count table.shape.b refl
  where
    by_count : (n : ℕ) → table.shape.b ≡ n → IsFewest table (fewest_of table table.shape.b)
    by_count zero e = absurd (omega (arith, some, e))
    by_count (suc n) e =
        let is = subst (λ k. IsFewestOf table k (fewest_of table k)) (sym e) (fewest_is table n) in
        record { within = is.within; fewest = is.fewest; lowest = is.lowest }

first_boundary_by : (table : Table) (b : ℕ) (room : Bool) → 0 < table.shape.b → nat_lt (used_in table (b % table.shape.b)) table.shape.k ≡ room
    → used_in table (cond room (b % table.shape.b) (fewest_of table table.shape.b)) < table.shape.k
    → IsFirstBoundary table b (cond room (b % table.shape.b) (fewest_of table table.shape.b))
first_boundary_by table b true some e room = record {
  room = room;
  own = λ low. refl;
  other = λ full. absurd (omega (arith, full, room));
}
first_boundary_by table b false some e room = record {
  room = room;
  own = λ low. absurd (omega (arith, low, ltb-false (used_in table (b % table.shape.b)) table.shape.k e));
  other = λ full. fewest_at table some;
}

pub first_boundary_is : (table : Table) (b : ℕ) → 0 < table.shape.b → used_in table (first_boundary table b) < table.shape.k
    → IsFirstBoundary table b (first_boundary table b)
first_boundary_is table b some room = first_boundary_by table b (nat_lt (used_in table (b % table.shape.b)) table.shape.k) some refl room

-- where its boundary has fewer than K used slots, and one of the K+1 slots is free there, this is how a block without sites is sited
pub first_sited : (table : Table) (b : ℕ) → 0 < table.shape.b → has_site (sites_in table b) ≡ false → used_in table (first_boundary table b) < table.shape.k
    → lowest_free table (first_boundary table b) ≤ table.shape.k → IsSited table b (first_table table b)
first_sited table b some none room free =
    let on = first_boundary_is table b some room in
    record {
      kept = λ has. absurd (false≢true (sym none ∙ has));
      first = λ e. record {
        evictions = 0;
        middle = table;
        site = record { boundary = first_boundary table b; slot = lowest_free table (first_boundary table b) };
        evicted = ((λ packed. absurd (let full = packed (first_boundary table b) (first_below table b (first_boundary table b) some on) in omega (arith, full, room))), refl);
        boundary = on;
        slot = lowest_free_is table (first_boundary table b) free;
        given = refl;
      };
    }

-- a block that has sites is sited as it is
pub written_sited : (table : Table) (b : ℕ) → has_site (sites_in table b) ≡ true → IsSited table b table
written_sited table b has = record { kept = λ e. refl; first = λ none. absurd (false≢true (sym none ∙ has)) }
