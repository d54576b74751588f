-- Rows of a table: a site is put, or the sites on a boundary are taken from a block.
use Rattle.std.proofs.Common.{◌≡◌, ◌≢◌, inl, inr, ℕ, ◌+◌, ◌≤◌, ◌<◌, true, false, Bool, cond, List, [], ◌∷◌, ◌++◌, length, refl, sym, ◌∙◌, ap, subst, arith, get_or}
use Rattle.std.specs.Prelude.{◌==◌, IfOk, MatchOption, None, OnErr, Option, Result, Ok, Err, Some, not, slice_set}
use Rattle.std.specs.List.{All, Contains, filter, range_with_len}
use Rattle.std.proofs.lemmas.Bool.{cases_eq, false≢true}
use Rattle.std.proofs.lemmas.Bool.Decides.{nat_tests}
use Rattle.std.proofs.lemmas.List.{get_or-set_same, get_or-set_other, set-set, set-get_or, append-nil, length-append, nil_from_length}
use Rattle.std.proofs.lemmas.List.Sums.{length-filter}
use Rattle.std.proofs.lemmas.List.Filters.{length-filter_both}
use Rattle.std.proofs.lemmas.List.Elements.{All-head, All-tail, All-nil, All-cons, All-filter, All-contains, All-contains_itself, Contains-get_or, Contains-push, filter-append, filter_passes}
use Rattle.dg_model.proofs.SiteLists.{count_pos}
use Rattle.dg_model.specs.Sites.{IsGivenFirst, IsSited, has_site}
use Rattle.dg_model.specs.Members.{is_lost}
use Rattle.dg_model.specs.States.{IsLeastLost, has_lost}
use Rattle.dg_model.specs.declared.members.MemberState.{MemberState}
use Rattle.dg_model.specs.declared.shapes.Shape.{Shape}
use Rattle.std.proofs.lemmas.List.Folds.{list_any-from_Any, list_any_none}
use Rattle.std.proofs.lemmas.List.FromFn.{get_or-range_with_len, length-range_with_len}
use Rattle.std.specs.Option.{is_some}
use Rattle.dg_model.specs.Tables.{Table, IsTable, count_on, put_site, sites_in, sites_off, without_site}
use Rattle.dg_model.specs.declared.sites.Site.{Site}
use Rattle.dg_model.specs.declared.failures.NoMemory.{NoMemory}
use Rattle.dg_store.specs.Answers.{IsPlaced, SameWritten, reaped}
use Rattle.dg_store.specs.Slots.{AreSlots}
use Rattle.dg_store.specs.declared.store.PlaceAnswer.{PlaceAnswer}
use Rattle.dg_store.specs.declared.store.PlaceAnswer.TheVariants.{Full, Gone, Lost, Placed}

-- ---- lists of sites

abbrev pub IsOff : ℕ → Site → Type 0
IsOff s site = site.boundary ≢ s

is_on : (site : Site) (s : ℕ) → site.boundary ≡ s → (site.boundary == s) ≡ true
is_on site s at = grind (arith, nat_tests)

is_off : (site : Site) (s : ℕ) → site.boundary ≢ s → (site.boundary == s) ≡ false
is_off site s off = grind (arith, nat_tests)

none_kept : (s : ℕ) (sites : List Site) → length (filter (λ (site : Site). site.boundary == s) sites) ≡ 0 → All (IsOff s) sites
none_kept s [] none = All-nil (IsOff s)
none_kept s (site ∷ sites) none =
    let rest = filter (λ (x : Site). x.boundary == s) sites in
    elim (cases_eq site.boundary s) [
      | inl at ↦ absurd (let e = ap (λ (b : Bool). length (cond b (site ∷ rest) rest)) (is_on site s at) in omega (arith, e, none))
      | inr off ↦ All-cons (IsOff s) site sites off (none_kept s sites (sym (ap (λ (b : Bool). length (cond b (site ∷ rest) rest)) (is_off site s off)) ∙ none))
    ]

pub none_on : (s : ℕ) (sites : List Site) → count_on s sites ≡ 0 → All (IsOff s) sites
none_on s sites none = none_kept s sites (length-filter (λ (site : Site). site.boundary == s) sites ∙ none)

off_all : (s : ℕ) (sites : List Site) → All (IsOff s) sites → sites_off s sites ≡ sites
off_all s [] off = refl
off_all s (site ∷ sites) off =
    let rest = sites_off s sites in
    ap (λ (b : Bool). cond (not b) (site ∷ rest) rest) (is_off site s (All-head (IsOff s) site sites off))
    ∙ ap (λ (xs : List Site). site ∷ xs) (off_all s sites (All-tail (IsOff s) site sites off))

off_one : (s : ℕ) (site : Site) → site.boundary ≡ s → sites_off s (site ∷ []) ≡ []
off_one s site at = ap (λ (b : Bool). cond (not b) (site ∷ []) []) (is_on site s at)

off_put : (s : ℕ) (sites : List Site) (site : Site) → count_on s sites ≡ 0 → site.boundary ≡ s → sites_off s (sites ++ site ∷ []) ≡ sites
off_put s sites site none at =
    filter-append (λ (x : Site). not (x.boundary == s)) sites (site ∷ [])
    ∙ ap (λ (xs : List Site). sites_off s sites ++ xs) (off_one s site at)
    ∙ append-nil (sites_off s sites)
    ∙ off_all s sites (none_on s sites none)

pub has_some : (sites : List Site) → 0 < length sites → has_site sites ≡ true
has_some [] some = absurd (omega arith)
has_some (site ∷ sites) some = refl

pub has_put : (sites : List Site) (site : Site) → has_site (sites ++ site ∷ []) ≡ true
has_put [] site = refl
has_put (first ∷ sites) site = refl

pub has_off : (s : ℕ) (sites : List Site) → 1 < length sites → count_on s sites ≤ 1 → has_site (sites_off s sites) ≡ true
has_off s sites more one =
    let both = length-filter_both (λ (site : Site). site.boundary == s) (λ (site : Site). not (site.boundary == s)) (λ (site : Site). refl) sites in
    let on = length-filter (λ (site : Site). site.boundary == s) sites in
    has_some (sites_off s sites) (omega (arith, both, on, one, more))

pub off_within : (s : ℕ) (sites : List Site) (site : Site) → Contains (sites_off s sites) site → Contains sites site
off_within s sites site in_off = All-contains (Contains sites) (sites_off s sites) site (All-filter (λ (x : Site). not (x.boundary == s)) (Contains sites) sites (All-contains_itself sites)) in_off

-- ---- rows of a table

module _ (table : Table) (b : ℕ) where
  pub put_here : (site : Site) → b < length table.rows → sites_in (put_site table b site) b ≡ sites_in table b ++ site ∷ []
  put_here site within = get_or-set_same table.rows b (sites_in table b ++ site ∷ []) [] within

  pub put_other : (site : Site) (c : ℕ) → c ≢ b → sites_in (put_site table b site) c ≡ sites_in table c
  put_other site c other = get_or-set_other table.rows b c (sites_in table b ++ site ∷ []) [] other

  pub without_here : (s : ℕ) → b < length table.rows → sites_in (without_site table b s) b ≡ sites_off s (sites_in table b)
  without_here s within = get_or-set_same table.rows b (sites_off s (sites_in table b)) [] within

  pub without_other : (s c : ℕ) → c ≢ b → sites_in (without_site table b s) c ≡ sites_in table c
  without_other s c other = get_or-set_other table.rows b c (sites_off s (sites_in table b)) [] other

  rows_back : (s : ℕ) (site : Site) → b < length table.rows → count_on s (sites_in table b) ≡ 0 → site.boundary ≡ s
      → slice_set (put_site table b site).rows b (sites_off s (sites_in (put_site table b site) b)) ≡ table.rows
  rows_back s site within none at =
      ap (λ (xs : List Site). slice_set (put_site table b site).rows b (sites_off s xs)) (put_here site within)
      ∙ ap (λ (xs : List Site). slice_set (put_site table b site).rows b xs) (off_put s (sites_in table b) site none at)
      ∙ set-set table.rows b (sites_in table b ++ site ∷ []) (sites_in table b)
      ∙ set-get_or table.rows b []

  -- a site that is put and taken away
  pub put_back : (s : ℕ) (site : Site) → b < length table.rows → count_on s (sites_in table b) ≡ 0 → site.boundary ≡ s → without_site (put_site table b site) b s ≡ table
  put_back s site within none at =
      let with_rows : List (List Site) → Table = λ rows. record { shape = table.shape; rows = rows } in
      ap with_rows (rows_back s site within none at)

-- the sites of a block are slots of the array
pub are_slots : (table : Table) (b boundaries : ℕ) → IsTable table → boundaries ≡ table.shape.b → AreSlots boundaries (table.shape.k + 1) (sites_in table b)
are_slots table b boundaries is count k d below =
    let there = Contains-get_or (sites_in table b) k d below in
    (let low = is.boundaries b _ _ there in omega (arith, low, count), let low = is.slots b _ _ there in omega (arith, low))

-- a block has a site on the boundary
pub some_on : (s : ℕ) (sites : List Site) → 0 < count_on s sites → (site : Site) × Contains sites site × (site.boundary ≡ s)
some_on s sites some =
    let test : Site → Bool = λ (x : Site). x.boundary == s in
    let on = filter test sites in
    let below : 0 < length on = omega (arith, length-filter test sites, some) in
    let site = get_or on 0 (record { boundary = 0; slot = 0 }) in
    let passes : (site.boundary == s) ≡ true = filter_passes test sites 0 (record { boundary = 0; slot = 0 }) below in
    let at : site.boundary ≡ s = grind (arith, nat_tests) in
    (site, All-filter test (Contains sites) sites (All-contains_itself sites) 0 (record { boundary = 0; slot = 0 }) below, at)

pub count_put : (s : ℕ) (sites : List Site) (site : Site) → site.boundary ≡ s → 0 < count_on s (sites ++ site ∷ [])
count_put s sites site at =
    let test : Site → Bool = λ (x : Site). x.boundary == s in
    let whole = filter-append test sites (site ∷ []) in
    let one : filter test (site ∷ []) ≡ site ∷ [] = ap (λ (b : Bool). cond b (site ∷ []) []) (is_on site s at) in
    omega (arith, length-filter test (sites ++ site ∷ []), ap length whole, length-append (filter test sites) (filter test (site ∷ [])), ap length one)

pub on_boundary : (table : Table) (b s : ℕ) → IsTable table → 0 < count_on s (sites_in table b) → s < table.shape.b
on_boundary table b s is some =
    let there = some_on s (sites_in table b) some in
    let low = is.boundaries b there.0.boundary there.0.slot there.1 in
    omega (arith, low, there.2)

-- the slot of a site that was put is one of the array
pub put_slot : (table new : Table) (b : ℕ) (site : Site) → new ≡ put_site table b site → IsTable new → b < length table.rows → site.slot < table.shape.k + 1
put_slot table new b site put is within =
    let row : sites_in new b ≡ sites_in table b ++ site ∷ [] = ap (λ (t : Table). sites_in t b) put ∙ put_here table b site within in
    let there = subst (λ (xs : List Site). Contains xs site) (sym row) (Contains-push (sites_in table b) site) in
    let low = is.slots b site.boundary site.slot there in
    let same : new.shape.k ≡ table.shape.k = ap (λ (t : Table). t.shape.k) put in
    omega (arith, low, same)

-- the slot of a block's only site
pub only_slot : (table : Table) (b : ℕ) (site : Site) → sites_in table b ≡ site ∷ [] → IsTable table → (site.boundary < table.shape.b) × (site.slot < table.shape.k + 1)
only_slot table b site row is =
    let there = subst (λ (xs : List Site). Contains xs site) (sym row) (Contains-push [] site) in
    (is.boundaries b site.boundary site.slot there, let low = is.slots b site.boundary site.slot there in omega (arith, low))

-- a written block has one more site
pub put_written : (old new : Table) (b s : ℕ) → b < length old.rows → has_site (sites_in old b) ≡ true → IsPlaced old b s new → SameWritten old new
put_written old new b s within has placed c =
    let site = placed.site in
    let is : sites_in new c ≡ sites_in (put_site old b site) c = ap (λ (t : Table). sites_in t c) placed.takes.taken in
    ap has_site is
    ∙ elim (cases_eq c b) [
      | inl here ↦
          ap (λ (e : ℕ). has_site (sites_in (put_site old b site) e)) here
          ∙ ap has_site (put_here old b site within)
          ∙ has_put (sites_in old b) site
          ∙ sym has
          ∙ ap (λ (e : ℕ). has_site (sites_in old e)) (sym here)
      | inr other ↦ ap has_site (put_other old b site c other)
    ]

-- the same by the answer of a copy
pub written_by : (r : Result PlaceAnswer NoMemory) (old new : Table) (b s : ℕ) → b < length old.rows → has_site (sites_in old b) ≡ true
    → IfOk r (λ answer. answer ≡ Placed → IsPlaced old b s new) → IfOk r (λ answer. answer ≢ Placed → new ≡ old) → OnErr r (new ≡ old) → SameWritten old new
written_by (Ok Placed) old new b s within has placed refused err c = put_written old new b s within has (placed refl) c
written_by (Ok Full) old new b s within has placed refused err c = ap (λ (t : Table). has_site (sites_in t c)) (refused (λ is. absurd (cc is)))
written_by (Ok Gone) old new b s within has placed refused err c = ap (λ (t : Table). has_site (sites_in t c)) (refused (λ is. absurd (cc is)))
written_by (Ok (Lost t)) old new b s within has placed refused err c = ap (λ (t : Table). has_site (sites_in t c)) (refused (λ is. absurd (cc is)))
written_by (Err e) old new b s within has placed refused err c = ap (λ (t : Table). has_site (sites_in t c)) err

pub ok_map : {A E : Type 0} (r : Result A E) (P Q : A → Type 0) → ((a : A) → P a → Q a) → IfOk r P → IfOk r Q
ok_map (Ok a) P Q step had = step a had
ok_map (Err e) P Q step had = tt

pub err_map : {A E : Type 0} (r : Result A E) (P Q : Type 0) → (P → Q) → OnErr r P → OnErr r Q
err_map (Ok a) P Q step had = tt
err_map (Err e) P Q step had = step had

-- a block's sites after a write

pub sited_first : (old new : Table) (b : ℕ) → has_site (sites_in old b) ≡ false → IsGivenFirst old b new → IsSited old b new
sited_first old new b none given = record {
  kept = λ has. absurd (false≢true (sym none ∙ has));
  first = λ blank. given;
}

pub sited_again : (old new : Table) (b : ℕ) → has_site (sites_in old b) ≡ true → new ≡ old → IsSited old b new
sited_again old new b has same = record {
  kept = λ some. same;
  first = λ none. absurd (false≢true (sym none ∙ has));
}

-- ---- a block that gives up all its sites

-- the table once block b has these sites
abbrev pub with_sites : Table → ℕ → List Site → Table
with_sites table b sites = record table { rows = slice_set table.rows b sites }

pub with_same : (table : Table) (b : ℕ) → table ≡ with_sites table b (sites_in table b)
with_same table b = ap (λ (rows : List (List Site)). record table { rows = rows }) (sym (set-get_or table.rows b []))

-- one more site is given up
pub with_less : (old now new : Table) (b s : ℕ) → b < length now.rows → now ≡ with_sites old b (sites_in now b) → new ≡ without_site now b s → new ≡ with_sites old b (sites_in new b)
with_less old now new b s within is less =
    let off = sites_off s (sites_in now b) in
    let here : sites_in new b ≡ off = ap (λ (t : Table). sites_in t b) less ∙ without_here now b s within in
    less
    ∙ ap (λ (t : Table). with_sites t b off) is
    ∙ ap (λ (rows : List (List Site)). record old { rows = rows }) (set-set old.rows b (sites_in now b) off)
    ∙ ap (with_sites old b) (sym here)

pub fewer_sites : (now new : Table) (b : ℕ) (site : Site) → b < length now.rows → Contains (sites_in now b) site → new ≡ without_site now b site.boundary → length (sites_in new b) < length (sites_in now b)
fewer_sites now new b site within there less =
    let test : Site → Bool = λ (x : Site). x.boundary == site.boundary in
    let here : sites_in new b ≡ sites_off site.boundary (sites_in now b) = ap (λ (t : Table). sites_in t b) less ∙ without_here now b site.boundary within in
    omega (arith, ap length here, length-filter_both test (λ (x : Site). not (x.boundary == site.boundary)) (λ (x : Site). refl) (sites_in now b), length-filter test (sites_in now b), count_pos site.boundary (sites_in now b) site there refl)

pub all_given : (old now : Table) (b : ℕ) → now ≡ with_sites old b (sites_in now b) → length (sites_in now b) ≡ 0 → now ≡ reaped old b
all_given old now b is none = is ∙ ap (with_sites old b) (nil_from_length (sites_in now b) none)

pub shaped_within : (old now : Table) (b : ℕ) → now ≡ with_sites old b (sites_in now b) → IsTable now → b < old.shape.n → b < length now.rows
shaped_within old now b is table below = let same : now.shape.n ≡ old.shape.n = ap (λ (t : Table). t.shape.n) is in omega (arith, table.size, same, below)

-- ---- lost boundaries

pub none_lost : (shape : Shape) (members : ℕ → MemberState) → ((t : ℕ) → t < shape.b → is_lost members t ≡ false) → has_lost shape members ≡ false
none_lost shape members none =
    list_any_none (λ (s : ℕ). is_lost members s) (range_with_len 0 shape.b)
    (λ k d within. none (get_or (range_with_len 0 shape.b) k d) (omega (arith, get_or-range_with_len 0 shape.b k d (omega (arith, length-range_with_len 0 shape.b)), length-range_with_len 0 shape.b)))

some_lost : (shape : Shape) (members : ℕ → MemberState) (s : ℕ) → s < shape.b → is_lost members s ≡ true → has_lost shape members ≡ true
some_lost shape members s below lost =
    list_any-from_Any (λ (t : ℕ). is_lost members t) (range_with_len 0 shape.b)
    (s, s, omega (arith, length-range_with_len 0 shape.b), (let at = get_or-range_with_len 0 shape.b s s below in omega (arith, at)), lost)

pub degraded : (shape : Shape) (members : ℕ → MemberState) (least : Option ℕ) → MatchOption least (has_lost shape members ≡ false) (IsLeastLost shape members) → is_some least ≡ has_lost shape members
degraded shape members None none = sym none
degraded shape members (Some s) is = sym (some_lost shape members s is.within is.lost)
