-- How far a member is refilled, and which blocks are reaped on the way, is told by the state before.
use Rattle.std.proofs.Common.{◌≡◌, ◌∙◌, ◌==◌, ◌&&◌, ◌+◌, ◌<◌, ◌≤◌, ℕ, suc, Bool, true, false, cond, List, [], ◌∷◌, length, get_or, refl, sym, ap, subst, inl, inr, arith}
use Rattle.std.specs.Prelude.{if◌then◌else◌, nat_le, nat_lt}
use Rattle.std.specs.List.{Contains, sum_by}
use Rattle.std.proofs.lemmas.Bool.{cases_Bool, cases_lt, cases_order}
use Rattle.std.proofs.lemmas.Bool.Decides.{nat_tests}
use Rattle.std.proofs.lemmas.List.{get_or_default, get_or_past, same_lists}
use Rattle.std.proofs.lemmas.List.Sums.{get_or-le-sum_by, sum_by-cons}
use Rattle.ufs_model.specs.Blocks.{Volume}
use Rattle.dg_model.specs.Blocks.{block_in, zeros}
use Rattle.dg_model.specs.Refills.{Reaps, Refills, StandsBetween}
use Rattle.dg_model.specs.Tables.{StandsIn, Table, sites_in, used_between}
use Rattle.dg_model.specs.declared.shapes.Shape.{Shape}
use Rattle.dg_model.specs.declared.sites.Site.{Site}
use Rattle.dg_uses.proofs.OneView.{both}

-- ---- used slots

-- whether a site is on boundary s, in a slot from one to before another, as a number
abbrev span : ℕ → ℕ → ℕ → Site → ℕ
span s low high site = cond ((site.boundary == s) && (nat_le low site.slot && nat_lt site.slot high)) 1 0

abbrev spans : ℕ → ℕ → ℕ → List Site → ℕ
spans s low high sites = sum_by (span s low high) sites

slot_split : (here : Bool) (low mid high slot : ℕ) → low ≤ mid → mid ≤ high
    → cond {A = ℕ} (here && (nat_le low slot && nat_lt slot high)) 1 0
    ≡ cond {A = ℕ} (here && (nat_le low slot && nat_lt slot mid)) 1 0 + cond {A = ℕ} (here && (nat_le mid slot && nat_lt slot high)) 1 0
slot_split false low mid high slot first second = refl
slot_split true low mid high slot first second = grind (arith, nat_tests)

module _ (s low mid high : ℕ) (first : low ≤ mid) (second : mid ≤ high) where
  sites_split : (xs : List Site) → spans s low high xs ≡ spans s low mid xs + spans s mid high xs
  sites_split [] = refl
  sites_split (x ∷ xs) = omega (
    arith,
    sum_by-cons (span s low high) x xs,
    sum_by-cons (span s low mid) x xs,
    sum_by-cons (span s mid high) x xs,
    slot_split (x.boundary == s) low mid high x.slot first second,
    sites_split xs,
  )

  rows_split : (rows : List (List Site)) → sum_by (spans s low high) rows ≡ sum_by (spans s low mid) rows + sum_by (spans s mid high) rows
  rows_split [] = refl
  rows_split (xs ∷ rows) = omega (
    arith,
    sum_by-cons (spans s low high) xs rows,
    sum_by-cons (spans s low mid) xs rows,
    sum_by-cons (spans s mid high) xs rows,
    sites_split xs,
    rows_split rows,
  )

site_in : (s low high slot : ℕ) → low ≤ slot → slot < high → span s low high (record { boundary = s; slot = slot }) ≡ 1
site_in s low high slot from before = grind (arith, nat_tests)

sites_some : (s low high slot : ℕ) (xs : List Site) → Contains xs (record { boundary = s; slot = slot }) → low ≤ slot → slot < high → 1 ≤ spans s low high xs
sites_some s low high slot xs (i, lt, at) from before =
    let site : Site = record { boundary = s; slot = slot } in
    let one = ap (span s low high) at ∙ site_in s low high slot from before in
    omega (arith, one, get_or-le-sum_by (span s low high) xs i site lt)

-- where a row counts, one of its sites is there
site_found : (s low high : ℕ) (site : Site) → 0 < span s low high site → (site.boundary ≡ s) × (low ≤ site.slot) × (site.slot < high)
site_found s low high site some = (grind (arith, nat_tests), grind (arith, nat_tests), grind (arith, nat_tests))

in_tail : (x y : Site) (ys : List Site) → Contains ys x → Contains (y ∷ ys) x
in_tail x y ys (i, lt, at) = (suc i, omega (arith, lt), at)

sites_found : (s low high : ℕ) (xs : List Site) → 0 < spans s low high xs → (slot : ℕ) × Contains xs (record { boundary = s; slot = slot }) × (low ≤ slot) × (slot < high)
sites_found s low high [] some = absurd (omega (arith, some))
sites_found s low high (x ∷ xs) some = elim (cases_lt 0 (span s low high x)) [
  | inl here ↦
      let found = site_found s low high x here in
      (x.slot, (0, omega arith, λ i. record { boundary = found.0 i; slot = x.slot }), found.1, found.2)
  | inr none ↦
      let rest = sites_found s low high xs (omega (arith, some, none, sum_by-cons (span s low high) x xs)) in
      (rest.0, in_tail (record { boundary = s; slot = rest.0 }) x xs rest.1, rest.2, rest.3)
]

-- rows that count the same give the same sum
rows_same : (f : List Site → ℕ) (xs ys : List (List Site)) → length xs ≡ length ys → ((b : ℕ) → f (get_or xs b []) ≡ f (get_or ys b [])) → sum_by f xs ≡ sum_by f ys
rows_same f [] [] size each = refl
rows_same f [] (y ∷ ys) size each = absurd (omega (arith, size))
rows_same f (x ∷ xs) [] size each = absurd (omega (arith, size))
rows_same f (x ∷ xs) (y ∷ ys) size each =
    omega (arith, sum_by-cons f x xs, sum_by-cons f y ys, each 0, rows_same f xs ys (omega (arith, size)) (λ b. each (suc b)))

-- a taken slot counts
slot_counts : (table : Table) (b s slot : ℕ) → StandsIn table b s slot → 1 ≤ used_between table s slot (slot + 1)
slot_counts table b s slot stands = elim (cases_lt b (length table.rows)) [
  | inl low ↦ omega (arith, sites_some s slot (slot + 1) slot (sites_in table b) stands (omega arith) (omega arith), get_or-le-sum_by (spans s slot (slot + 1)) table.rows b [] low)
  | inr past ↦ absurd (no_row (sites_in table b) (get_or_past table.rows b [] past) stands)
]
  where
    no_row : (sites : List Site) → sites ≡ [] → Contains sites (record { boundary = s; slot = slot }) → ⊥
    no_row [] is has = let low = has.1 in omega arith
    no_row (x ∷ xs) is has = let no : x ∷ xs ≡ [] = is in cc

used_split : (table : Table) (s low mid high : ℕ) → low ≤ mid → mid ≤ high → used_between table s low high ≡ used_between table s low mid + used_between table s mid high
used_split table s low mid high first second = rows_split s low mid high first second table.rows

-- ---- which blocks are reaped

-- What is known of a refill that passed the slots from `low` to `high`: which blocks were reaped. `spares` is that none may be.
pub record Reaped (spares : Type 0) (dead : ℕ → Type 0) (old : Table) (blocks : Volume) (s low high : ℕ) (new : Table) (left : Volume) : Type 0 where
  pub reaped : ℕ → Bool
  pub reaps : Reaps old blocks s low high reaped new left
  pub none : spares → (b : ℕ) → reaped b ≡ false
  pub dead_are : (b : ℕ) → reaped b ≡ true → dead b
  pub all : (spares → ⊥) → (b : ℕ) → dead b → StandsBetween old b s low high → reaped b ≡ true
  pub kept : (spares → ⊥) → (b : ℕ) → StandsIn old b s high → dead b → ⊥

module _ (spares : Type 0) (dead : ℕ → Type 0) (old : Table) (blocks : Volume) (s low : ℕ) where
  module _ (high : ℕ) (new : Table) (left : Volume) (h : Reaped spares dead old blocks s low high new left) where
    not_spared : (b : ℕ) → h.reaped b ≡ true → spares → ⊥
    not_spared b reap spare = both (h.reaped b) reap (h.none spare b)

    sites_kept : (b : ℕ) → h.reaped b ≡ false → sites_in new b ≡ sites_in old b
    sites_kept b kept = h.reaps.sites b ∙ ap (λ (r : Bool). if r then [] else sites_in old b) kept

    sites_gone : (b : ℕ) → h.reaped b ≡ true → sites_in new b ≡ []
    sites_gone b reap = h.reaps.sites b ∙ ap (λ (r : Bool). if r then [] else sites_in old b) reap

    stood : (b slot : ℕ) → StandsIn new b s slot → (h.reaped b ≡ false) × StandsIn old b s slot
    stood b slot stands = elim (cases_Bool (h.reaped b)) [
      | inl reap ↦ absurd (no_site (sites_in new b) (sites_gone b reap) stands)
      | inr kept ↦ (kept, subst (λ (xs : List Site). Contains xs (record { boundary = s; slot = slot })) (sites_kept b kept) stands)
    ]
      where
        no_site : (sites : List Site) → sites ≡ [] → Contains sites (record { boundary = s; slot = slot }) → ⊥
        no_site [] is has = let few = has.1 in omega arith
        no_site (x ∷ xs) is has = let no : x ∷ xs ≡ [] = is in cc

    stands : (b slot : ℕ) → h.reaped b ≡ false → StandsIn old b s slot → StandsIn new b s slot
    stands b slot kept there = subst (λ (xs : List Site). Contains xs (record { boundary = s; slot = slot })) (sym (sites_kept b kept)) there

  -- two refills from one table, of which the one came no further than the other
  module _ (high higher : ℕ) (new newer : Table) (left lefter : Volume) (h : Reaped spares dead old blocks s low high new left) (g : Reaped spares dead old blocks s low higher newer lefter)
      (no_further : high ≤ higher) where
    further : (b : ℕ) → StandsBetween old b s low high → StandsBetween old b s low higher
    further b is = record { slot = is.slot; stands = is.stands; from = is.from; before = omega (arith, is.before, no_further) }

    -- what the one reaped, the other did
    reaped_too : (b : ℕ) → h.reaped b ≡ true → g.reaped b ≡ true
    reaped_too b reap = g.all (not_spared high new left h b reap) b (h.dead_are b reap) (further b (h.reaps.passed b reap))

    -- and what the other reaped below the one's end, the one did
    reaped_below : (b : ℕ) → g.reaped b ≡ true → StandsBetween old b s low high → h.reaped b ≡ true
    reaped_below b reap there = h.all (not_spared higher newer lefter g b reap) b (g.dead_are b reap) there

    counts_same : (b : ℕ) → spans s low high (sites_in new b) ≡ spans s low high (sites_in newer b)
    counts_same b = elim (cases_Bool (h.reaped b)) [
      | inl reap ↦ ap (spans s low high) (sites_gone high new left h b reap ∙ sym (sites_gone higher newer lefter g b (reaped_too b reap)))
      | inr kept ↦ elim (cases_Bool (g.reaped b)) [
        | inr spared ↦ ap (spans s low high) (sites_kept high new left h b kept ∙ sym (sites_kept higher newer lefter g b spared))
        | inl reap ↦ elim (cases_lt 0 (spans s low high (sites_in old b))) [
          | inl some ↦
              let found = sites_found s low high (sites_in old b) some in
              absurd (both (h.reaped b) (reaped_below b reap (record { slot = found.0; stands = found.1; from = found.2; before = found.3 })) kept)
          | inr none ↦
              let first = ap (spans s low high) (sites_kept high new left h b kept) in
              let second = ap (spans s low high) (sites_gone higher newer lefter g b reap) in
              omega (arith, first, second, none)
        ]
      ]
    ]

    used_same : used_between new s low high ≡ used_between newer s low high
    used_same = rows_same (spans s low high) new.rows newer.rows (h.reaps.rows ∙ sym g.reaps.rows) counts_same

    -- a block at the one's end stands there still after the other
    taken_too : (b : ℕ) → StandsIn new b s high → StandsIn newer b s high
    taken_too b there =
        let was = stood high new left h b high there in
        elim (cases_Bool (g.reaped b)) [
          | inr kept ↦ stands higher newer lefter g b high kept was.1
          | inl reap ↦ absurd (h.kept (not_spared higher newer lefter g b reap) b was.1 (g.dead_are b reap))
        ]

    -- so it came as far
    no_less : (limit d e l m : ℕ) → Refills new s low high limit d l → Refills newer s low higher limit e m → high < higher → ⊥
    no_less limit d e l m one other less = elim one.end [
      | inl whole ↦ omega (arith, whole, less, g.reaps.within, ap (λ (t : Shape). t.k) h.reaps.shape)
      | inr stopped ↦
          let taken = stopped.1 in
          let counts = slot_counts newer (taken.0) s high (taken_too (taken.0) (taken.1)) in
          let first = used_split newer s low high higher h.reaps.run (omega (arith, less)) in
          let second = used_split newer s high (high + 1) higher (omega arith) (omega (arith, less)) in
          omega (arith, first, second, counts, used_same, one.copied, other.copied, other.limit, stopped.0)
    ]

  -- two refills that came as far reaped the same blocks
  module _ (high : ℕ) (new newer : Table) (left lefter : Volume) (h : Reaped spares dead old blocks s low high new left) (g : Reaped spares dead old blocks s low high newer lefter) where
    reaped_same : (b : ℕ) → h.reaped b ≡ g.reaped b
    reaped_same b = by (h.reaped b) (g.reaped b) (reaped_too high high new newer left lefter h g (omega arith) b) (reaped_too high high newer new lefter left g h (omega arith) b)
      where
        by : (one other : Bool) → (one ≡ true → other ≡ true) → (other ≡ true → one ≡ true) → one ≡ other
        by true true there back = refl
        by true false there back = sym (there refl)
        by false true there back = back refl
        by false false there back = refl

    table_same : new ≡ newer
    table_same =
        let size = h.reaps.rows ∙ sym g.reaps.rows in
        let sites : (b : ℕ) → sites_in new b ≡ sites_in newer b = λ b. h.reaps.sites b ∙ ap (λ (r : Bool). if r then [] else sites_in old b) (reaped_same b) ∙ sym (g.reaps.sites b) in
        let rows : new.rows ≡ newer.rows = same_lists new.rows newer.rows size (λ b d low. get_or_default new.rows b d [] low ∙ sites b ∙ get_or_default newer.rows b [] d (omega (arith, low, size))) in
        let shape : new.shape ≡ newer.shape = h.reaps.shape ∙ sym g.reaps.shape in
        λ i. record { shape = shape i; rows = rows i }

    blocks_same : left ≡ lefter
    blocks_same =
        let size = h.reaps.count ∙ sym g.reaps.count in
        let values : (b : ℕ) → block_in left b ≡ block_in lefter b = λ b. h.reaps.values b ∙ ap (λ (r : Bool). if r then zeros old.shape.l else block_in blocks b) (reaped_same b) ∙ sym (g.reaps.values b) in
        same_lists left lefter size (λ b d low. get_or_default left b d [] low ∙ values b ∙ get_or_default lefter b [] d (omega (arith, low, size)))

  -- one end, one table, one volume, and one number of copies and of used slots that are left
  pub record IsOneRefill (high higher : ℕ) (new newer : Table) (left lefter : Volume) (d e l m : ℕ) : Type 0 where
    pub end : high ≡ higher
    pub table : new ≡ newer
    pub volume : left ≡ lefter
    pub copied : d ≡ e
    pub rest : l ≡ m

  pub one_refill : (limit high higher : ℕ) (new newer : Table) (left lefter : Volume) (d e l m : ℕ) → Reaped spares dead old blocks s low high new left → Reaped spares dead old blocks s low higher newer lefter
      → Refills new s low high limit d l → Refills newer s low higher limit e m → IsOneRefill high higher new newer left lefter d e l m
  one_refill limit high higher new newer left lefter d e l m h g one other = elim (cases_order high higher) [
    | inl same ↦
        let at = subst (λ (x : ℕ). Reaped spares dead old blocks s low x newer lefter) (sym same) g in
        let table = table_same high new newer left lefter h at in
        record {
          end = same;
          table = table;
          volume = blocks_same high new newer left lefter h at;
          copied = one.copied ∙ ap (λ (t : Table). used_between t s low high) table ∙ ap (used_between newer s low) same ∙ sym other.copied;
          rest = one.rest ∙ ap (λ (t : Table). used_between t s high (t.shape.k + 1)) table ∙ ap (λ (x : ℕ). used_between newer s x (newer.shape.k + 1)) same ∙ sym other.rest;
        }
    | inr apart ↦ elim apart [
      | inl less ↦ absurd (no_less high higher new newer left lefter h g (omega (arith, less)) limit d e l m one other less)
      | inr more ↦ absurd (no_less higher high newer new lefter left g h (omega (arith, more)) limit e d m l other one more)
    ]
  ]
