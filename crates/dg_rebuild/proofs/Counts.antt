-- How many slots of a boundary are used from one to before another.
use Rattle.std.proofs.Common.{◌≡◌, ◌<◌, ◌≤◌, ◌+◌, ◌==◌, ◌&&◌, ℕ, suc, Bool, true, false, cond, List, [], ◌∷◌, length, get_or, inl, inr, refl, sym, ◌∙◌, ap, subst, arith}
use Rattle.std.specs.Prelude.{MatchOption, None, Option, Some, is_some, nat_le, nat_lt, if◌then◌else◌}
use Rattle.std.specs.List.{Contains, sum_by}
use Rattle.std.proofs.lemmas.Bool.{cases_eq}
use Rattle.std.proofs.lemmas.Bool.Decides.{nat_tests}
use Rattle.std.proofs.lemmas.List.Sums.{get_or-le-sum_by, sum_by-cons}
use Rattle.dg_model.specs.Moves.{sum_upto}
use Rattle.dg_model.specs.Refills.{StandsBetween}
use Rattle.dg_model.specs.Tables.{IsFree, IsTable, StandsIn, Table, count_on, sites_in, used_between}
use Rattle.dg_model.specs.declared.sites.Site.{Site}
use Rattle.dg_model.proofs.FreeLaws.{stands_within}
use Rattle.dg_model.proofs.SiteLists.{count_on-cons}
use Rattle.dg_model.proofs.SumLaws.{sum_none, sum_one_less, sum_places, sum_same, sum_zero}

-- ---- one site

-- whether a site is on boundary s, in a slot from one to before another, as a number
abbrev span : ℕ → ℕ → ℕ → Site → ℕ
span s low high site = cond ((site.boundary == s) && (nat_le low site.slot && nat_lt site.slot high)) 1 0

slot_split : (here : Bool) (low mid high slot : ℕ) → low ≤ mid → mid ≤ high
    → cond {A = ℕ} (here && (nat_le low slot && nat_lt slot high)) 1 0
    ≡ cond {A = ℕ} (here && (nat_le low slot && nat_lt slot mid)) 1 0 + cond {A = ℕ} (here && (nat_le mid slot && nat_lt slot high)) 1 0
slot_split false low mid high slot first second = refl
slot_split true low mid high slot first second = grind (arith, nat_tests)

slot_on : (here inside : Bool) → cond {A = ℕ} (here && inside) 1 0 ≤ cond {A = ℕ} here 1 0
slot_on false inside = omega arith
slot_on true false = omega arith
slot_on true true = omega arith

slot_in : (s low high : ℕ) (site : Site) → site.boundary ≡ s → low ≤ site.slot → site.slot < high → span s low high site ≡ 1
slot_in s low high site here from before = grind (arith, nat_tests)

-- ---- the sites of a block

abbrev spans : ℕ → ℕ → ℕ → List Site → ℕ
spans s low high sites = sum_by (span s low high) sites

module _ (s low mid high : ℕ) (first : low ≤ mid) (second : mid ≤ high) where
  sites_split : (xs : List Site) → spans s low high xs ≡ spans s low mid xs + spans s mid high xs
  sites_split [] = refl
  sites_split (x ∷ xs) = omega (
    arith,
    sum_by-cons (span s low high) x xs,
    sum_by-cons (span s low mid) x xs,
    sum_by-cons (span s mid high) x xs,
    slot_split (x.boundary == s) low mid high x.slot first second,
    sites_split xs,
  )

  rows_split : (rows : List (List Site)) → sum_by (spans s low high) rows ≡ sum_by (spans s low mid) rows + sum_by (spans s mid high) rows
  rows_split [] = refl
  rows_split (xs ∷ rows) = omega (
    arith,
    sum_by-cons (spans s low high) xs rows,
    sum_by-cons (spans s low mid) xs rows,
    sum_by-cons (spans s mid high) xs rows,
    sites_split xs,
    rows_split rows,
  )

  pub used_split : (table : Table) → used_between table s low high ≡ used_between table s low mid + used_between table s mid high
  used_split table = rows_split table.rows

sites_most : (s low high : ℕ) (xs : List Site) → spans s low high xs ≤ count_on s xs
sites_most s low high [] = omega arith
sites_most s low high (x ∷ xs) = omega (
  arith,
  sum_by-cons (span s low high) x xs,
  count_on-cons s x xs,
  slot_on (x.boundary == s) (nat_le low x.slot && nat_lt x.slot high),
  sites_most s low high xs,
)

sites_some : (s low high slot : ℕ) (xs : List Site) → Contains xs (record { boundary = s; slot = slot }) → low ≤ slot → slot < high → 1 ≤ spans s low high xs
sites_some s low high slot xs (i, lt, at) from before =
    let site : Site = record { boundary = s; slot = slot } in
    let there : Site = get_or xs i site in
    let number : there.slot ≡ slot = ap (λ (y : Site). y.slot) at in
    omega (
      arith,
      get_or-le-sum_by (span s low high) xs i site lt,
      slot_in s low high there (ap (λ (y : Site). y.boundary) at) (omega (arith, number, from)) (omega (arith, number, before)),
    )

slot_out : (s low high : ℕ) (site : Site) → (low ≤ site.slot → site.slot < high → site.boundary ≡ s → ⊥) → span s low high site ≡ 0
slot_out s low high site out = elim (cases_eq site.boundary s) [
  | inl here ↦
      let off : (low ≤ site.slot) → (site.slot < high) → ⊥ = λ from before. out from before here in
      beside (site.boundary == s) low high site.slot off
  | inr there ↦ grind (arith, nat_tests)
]
  where
    beside : (here : Bool) (low high slot : ℕ) → (low ≤ slot → slot < high → ⊥) → cond {A = ℕ} (here && (nat_le low slot && nat_lt slot high)) 1 0 ≡ 0
    beside false low high slot off = refl
    beside true low high slot off = grind (arith, nat_tests, off)

same_site : (site : Site) (s slot : ℕ) → site.boundary ≡ s → site.slot ≡ slot → site ≡ record { boundary = s; slot = slot }
same_site site s slot here at i = record { boundary = here i; slot = at i }

sites_none : (s low high : ℕ) (xs : List Site) → ((slot : ℕ) → low ≤ slot → slot < high → ¬ Contains xs (record { boundary = s; slot = slot })) → spans s low high xs ≡ 0
sites_none s low high [] none = refl
sites_none s low high (x ∷ xs) none = omega (
  arith,
  sum_by-cons (span s low high) x xs,
  slot_out s low high x (λ from before here. none x.slot from before (0, omega arith, same_site x s x.slot here refl)),
  sites_none s low high xs (λ slot from before there. none slot from before (suc there.0, omega (arith, there.1), there.2)),
)

-- ---- all blocks

used_places : (table : Table) (s low high : ℕ) → used_between table s low high ≡ sum_upto (length table.rows) (λ b. spans s low high (sites_in table b))
used_places table s low high = sum_places (spans s low high) table.rows []

pub used_none : (table : Table) (s low high : ℕ) → high ≤ low → used_between table s low high ≡ 0
used_none table s low high past =
    used_places table s low high
    ∙ sum_zero (λ b. spans s low high (sites_in table b)) (length table.rows)
    (λ b within. sites_none s low high (sites_in table b) (λ slot from before there. absurd (omega (arith, from, before, past))))

pub used_free : (table : Table) (s slot : ℕ) → IsFree table s slot → used_between table s slot (slot + 1) ≡ 0
used_free table s slot free =
    used_places table s slot (slot + 1)
    ∙ sum_zero (λ b. spans s slot (slot + 1) (sites_in table b)) (length table.rows)
    (λ b within. only b)
  where
    only : (b : ℕ) → spans s slot (slot + 1) (sites_in table b) ≡ 0
    only b = sites_none s slot (slot + 1) (sites_in table b) (λ at from before there.
        let same : at ≡ slot = omega (arith, from, before) in
        free b (subst (λ (k : ℕ). StandsIn table b s k) same there))

module _ (table : Table) (is : IsTable table) where
  pub used_taken : (b s slot : ℕ) → StandsIn table b s slot → used_between table s slot (slot + 1) ≡ 1
  used_taken b s slot stands =
      let f : ℕ → ℕ = λ c. spans s slot (slot + 1) (sites_in table c) in
      let one : f b ≡ 1 = omega (
        arith,
        sites_most s slot (slot + 1) (sites_in table b),
        is.one_site b s,
        sites_some s slot (slot + 1) slot (sites_in table b) stands (omega arith) (omega arith),
      ) in
      let none : (c : ℕ) → (c ≡ b → ⊥) → 0 ≡ f c = λ c other. sym (sites_none s slot (slot + 1) (sites_in table c) (λ at from before there.
      let same : at ≡ slot = omega (arith, from, before) in
      other (is.one_block c b s slot (subst (λ (k : ℕ). StandsIn table c s k) same there) stands))) in
      let sums = sum_one_less f (λ c. 0) (length table.rows) b (stands_within table b s slot stands) (omega (arith, one)) none in
      omega (arith, used_places table s slot (slot + 1), sums, sum_none (length table.rows))

  -- a block that stands in a slot of a boundary stands in no lower one of it
  lower_none : (b s low mid slot : ℕ) → StandsIn table b s slot → low ≤ mid → mid ≤ slot → spans s low mid (sites_in table b) ≡ 0
  lower_none b s low mid slot stands first second = omega (
    arith,
    sites_split s low mid (slot + 1) first (omega (arith, second)) (sites_in table b),
    sites_most s low (slot + 1) (sites_in table b),
    is.one_site b s,
    sites_some s mid (slot + 1) slot (sites_in table b) stands second (omega arith),
  )

  pub none_lower : (b s low high : ℕ) → low ≤ high → StandsIn table b s high → StandsBetween table b s low high → ⊥
  none_lower b s low high run stands there = omega (
    arith,
    lower_none b s low high high stands run (omega arith),
    sites_some s low high there.slot (sites_in table b) there.stands there.from there.before,
  )

  -- where blocks that stand in higher slots lose all their sites, as many lower slots are used
  pub used_below : (new : Table) (reaped : ℕ → Bool) (s low mid high : ℕ) → low ≤ mid → length new.rows ≡ length table.rows
      → ((b : ℕ) → sites_in new b ≡ (if reaped b then [] else sites_in table b))
      → ((b : ℕ) → reaped b ≡ true → StandsBetween table b s mid high)
      → used_between new s low mid ≡ used_between table s low mid
  used_below new reaped s low mid high run rows sites passed =
      used_places new s low mid
      ∙ ap (λ (n : ℕ). sum_upto n (λ b. spans s low mid (sites_in new b))) rows
      ∙ sum_same (λ b. spans s low mid (sites_in new b)) (λ b. spans s low mid (sites_in table b)) (length table.rows) (λ b within. each b (reaped b) refl)
      ∙ sym (used_places table s low mid)
    where
      each : (b : ℕ) (r : Bool) → reaped b ≡ r → spans s low mid (sites_in new b) ≡ spans s low mid (sites_in table b)
      each b true e =
          let there = passed b e in
          ap (spans s low mid) (sites b ∙ ap (λ (t : Bool). if t then [] else sites_in table b) e)
          ∙ sym (lower_none b s low mid there.slot there.stands run there.from)
      each b false e = ap (spans s low mid) (sites b ∙ ap (λ (t : Bool). if t then [] else sites_in table b) e)

-- a slot is used where some block stands in it
pub used_by : (table : Table) (s slot : ℕ) (found : Option ℕ) → IsTable table → MatchOption found (IsFree table s slot) (λ b. StandsIn table b s slot)
    → used_between table s slot (slot + 1) ≡ (if is_some found then 1 else 0)
used_by table s slot None is free = used_free table s slot free
used_by table s slot (Some b) is stands = used_taken table is b s slot stands
