-- What is left of a table once sites were given up, and that they can be taken again.
use Rattle.std.proofs.Common.{◌≡◌, ◌<◌, ◌≤◌, ◌+◌, ◌-◌, ◌≢◌, ℕ, List, [], ◌∷◌, ◌++◌, length, set, take, Result, Ok, Err, OnErr, inl, inr, refl, sym, ◌∙◌, ap, subst, arith}
use Rattle.std.specs.List.{Contains, sum_by}
use Rattle.std.specs.Prelude.{Some, slice_get}
use Rattle.std.proofs.lemmas.Bool.{cases_eq}
use Rattle.std.proofs.lemmas.List.{append-nil, append_assoc, get_or-set_same, get_or-set_other, length-set, length-take-le, length_push, set-get_or, set-set}
use Rattle.std.proofs.lemmas.List.Elements.{Contains-append_left, Contains-push}
use Rattle.std.proofs.lemmas.List.Sums.{sum_by-set}
use Rattle.dg_model.specs.declared.sites.Site.{Site}
use Rattle.dg_model.specs.Sites.{IsLeastSpread, has_site, without_last}
use Rattle.dg_model.specs.Tables.{IsFree, IsTable, StandsIn, Table, count_on, put_site, sites_in, sites_off, without_site}
use Rattle.dg_model.proofs.SiteLists.{count_on-last, count_pos, off_last, single_off}
use Rattle.dg_model.proofs.ThinLaws.{thinned_table}
use Rattle.dg_store.specs.declared.sites.GivenUp.{GivenUp}
use Rattle.dg_store.specs.Evictions.{GaveUp, IsLastSite, IsThinned, table_before}
use Rattle.dg_store.proofs.SitesLists.{front_none, has_site-some, split_last, take_others}

-- the site that a boundary and a slot name
abbrev site_at : ℕ → ℕ → Site
site_at s slot = record { boundary = s; slot = slot }

-- ---- a table with fewer sites

pub thinned_none : (table : Table) → IsThinned table table
thinned_none table = record {
  shape = refl;
  front = λ b. ([], sym (append-nil (sites_in table b)));
  written = λ b. refl;
}

pub thinned_both : (a b c : Table) → IsThinned a b → IsThinned b c → IsThinned a c
thinned_both a b c first second = record {
  shape = second.shape ∙ first.shape;
  front = λ q.
      let f = first.front q in
      let g = second.front q in
      (g.0 ++ f.0, f.1 ∙ ap (λ xs. xs ++ f.0) g.1 ∙ append_assoc (sites_in c q) g.0 f.0);
  written = λ q. second.written q ∙ first.written q;
}

-- a block without sites still has none
pub thinned_empty : (old new : Table) (b : ℕ) → IsThinned old new → sites_in old b ≡ [] → sites_in new b ≡ []
thinned_empty old new b thin none = let f = thin.front b in front_none (sites_in new b) f.0 (sym none ∙ f.1)

pub IsTable-thinned : (old new : Table) → IsTable old → IsThinned old new → length new.rows ≡ length old.rows → IsTable new
IsTable-thinned old new ok thin size = thinned_table old new ok (record { shape = thin.shape; rows = size; front = thin.front })

-- ---- one site that was given up

module _ (table : Table) (given : GivenUp) (ok : IsTable table) (last : IsLastSite table given) where
  within : given.block < length table.rows
  within = let size = ok.size in let inside = last.within in omega (arith, size, inside)

  single : count_on given.site.boundary (last.others ++ given.site ∷ []) ≤ 1
  single = subst (λ xs. count_on given.site.boundary xs ≤ 1) last.list (ok.one_site given.block given.site.boundary)

  others_stay : sites_off given.site.boundary (sites_in table given.block) ≡ last.others
  others_stay = ap (sites_off given.site.boundary) last.list ∙ off_last last.others given.site single

  pub left_here : sites_in (without_site table given.block given.site.boundary) given.block ≡ last.others
  left_here = get_or-set_same table.rows given.block (sites_off given.site.boundary (sites_in table given.block)) [] within ∙ others_stay

  left_other : (c : ℕ) → c ≢ given.block → sites_in (without_site table given.block given.site.boundary) c ≡ sites_in table c
  left_other c ne = get_or-set_other table.rows given.block c (sites_off given.site.boundary (sites_in table given.block)) [] ne

  front_left : (b : ℕ) → (rest : List Site) × (sites_in table b ≡ sites_in (without_site table given.block given.site.boundary) b ++ rest)
  front_left b = elim (cases_eq b given.block) [
    | inl e ↦ (given.site ∷ [], ap (sites_in table) e ∙ last.list ∙ ap (λ xs. xs ++ given.site ∷ []) (sym (ap (sites_in (without_site table given.block given.site.boundary)) e ∙ left_here)))
    | inr ne ↦ ([], sym (append-nil (sites_in (without_site table given.block given.site.boundary) b) ∙ left_other b ne))
  ]

  written_left : (b : ℕ) → has_site (sites_in (without_site table given.block given.site.boundary) b) ≡ has_site (sites_in table b)
  written_left b = elim (cases_eq b given.block) [
    | inl e ↦
        ap has_site (ap (sites_in (without_site table given.block given.site.boundary)) e ∙ left_here)
        ∙ has_site-some last.others last.some
        ∙ sym (ap has_site (ap (sites_in table) e ∙ last.list) ∙ has_site-some (last.others ++ given.site ∷ []) (let l = length_push last.others given.site in omega (arith, l)))
    | inr ne ↦ ap has_site (left_other b ne)
  ]

  pub thinned_once : IsThinned table (without_site table given.block given.site.boundary)
  thinned_once = record { shape = refl; front = front_left; written = written_left }

  pub left_table : IsTable (without_site table given.block given.site.boundary)
  left_table = IsTable-thinned table (without_site table given.block given.site.boundary) ok thinned_once (length-set table.rows given.block (sites_off given.site.boundary (sites_in table given.block)))

  -- taken again, the site is the last one of its list
  pub taken_again : put_site (without_site table given.block given.site.boundary) given.block given.site ≡ table
  taken_again =
      ap (λ rows. record { shape = table.shape; rows = rows })
      (set-set table.rows given.block (sites_off given.site.boundary (sites_in table given.block)) (sites_in (without_site table given.block given.site.boundary) given.block ++ given.site ∷ [])
      ∙ ap (λ row. set table.rows given.block row) (ap (λ xs. xs ++ given.site ∷ []) left_here ∙ sym last.list)
      ∙ set-get_or table.rows given.block [])

  -- that site is the last one
  pub last_left : without_last table given.block ≡ without_site table given.block given.site.boundary
  last_left =
      ap (λ row. record { shape = table.shape; rows = set table.rows given.block row })
      (ap (λ xs. take (length xs - 1) xs) last.list ∙ take_others last.others given.site ∙ sym others_stay)

  -- fewer sites are left
  pub sites_fewer : sum_by length (without_site table given.block given.site.boundary).rows < sum_by length table.rows
  sites_fewer =
      let sum = sum_by-set length table.rows given.block (sites_off given.site.boundary (sites_in table given.block)) [] within in
      let few : length (sites_off given.site.boundary (sites_in table given.block)) ≡ length last.others = ap length others_stay in
      let many : length (sites_in table given.block) ≡ length last.others + 1 = ap length last.list ∙ length_push last.others given.site in
      omega (arith, sum, few, many)

  pub stood : StandsIn table given.block given.site.boundary given.site.slot
  stood = subst (λ xs. Contains xs given.site) (sym last.list) (Contains-push last.others given.site)

  pub none_left : count_on given.site.boundary (sites_in (without_site table given.block given.site.boundary) given.block) ≡ 0
  none_left = ap (count_on given.site.boundary) left_here ∙ omega (arith, count_on-last last.others given.site, single)

  -- the slot is free
  pub slot_free : IsFree (without_site table given.block given.site.boundary) given.site.boundary given.site.slot
  slot_free c h =
      let f = front_left c in
      let before : StandsIn table c given.site.boundary given.site.slot = subst (λ xs. Contains xs given.site) (sym f.1) (Contains-append_left (sites_in (without_site table given.block given.site.boundary) c) f.0 given.site h) in
      let owner : c ≡ given.block = ok.one_block c given.block given.site.boundary given.site.slot before stood in
      let here : Contains (sites_in (without_site table given.block given.site.boundary) given.block) given.site = subst (λ q. Contains (sites_in (without_site table given.block given.site.boundary) q) given.site) owner h in
      absurd (omega (arith, none_left, count_pos given.site.boundary (sites_in (without_site table given.block given.site.boundary) given.block) given.site here refl))

-- ---- a list of them

pub gave_size : (es : List GivenUp) (old new : Table) → GaveUp es old new → length new.rows ≡ length old.rows
gave_size [] old new gave = ap (λ (t : Table). length t.rows) gave
gave_size (e ∷ es) old new gave =
    gave_size es (without_site old e.block e.site.boundary) new gave.1
    ∙ length-set old.rows e.block (sites_off e.site.boundary (sites_in old e.block))

pub gave_thinned : (es : List GivenUp) (old new : Table) → IsTable old → GaveUp es old new → IsThinned old new
gave_thinned [] old new ok gave = subst (IsThinned old) (sym gave) (thinned_none old)
gave_thinned (e ∷ es) old new ok gave =
    let mid : Table = without_site old e.block e.site.boundary in
    thinned_both old mid new (thinned_once old e ok gave.0) (gave_thinned es mid new (left_table old e ok gave.0) gave.1)

pub gave_table : (es : List GivenUp) (old new : Table) → IsTable old → GaveUp es old new → IsTable new
gave_table es old new ok gave = IsTable-thinned old new ok (gave_thinned es old new ok gave) (gave_size es old new gave)

pub gave_push : (es : List GivenUp) (e : GivenUp) (old mid new : Table) → GaveUp es old mid → IsLastSite mid e → new ≡ without_site mid e.block e.site.boundary → GaveUp (es ++ e ∷ []) old new
gave_push [] e old mid new gave last is = (subst (λ t. IsLastSite t e) gave last, is ∙ ap (λ t. without_site t e.block e.site.boundary) gave)
gave_push (x ∷ es) e old mid new gave last is = (gave.0, gave_push es e (without_site old x.block x.site.boundary) mid new gave.1 last is)

-- the table before, from what is left
pub gave_before : (es : List GivenUp) (old new : Table) → IsTable old → GaveUp es old new → table_before es new ≡ old
gave_before [] old new ok gave = gave
gave_before (e ∷ es) old new ok gave =
    ap (λ t. put_site t e.block e.site) (gave_before es (without_site old e.block e.site.boundary) new (left_table old e ok gave.0) gave.1)
    ∙ taken_again old e ok gave.0

-- the table before the last site of a list was given up
pub record GaveLast (es : List GivenUp) (e : GivenUp) (old new : Table) : Type 0 where
  pub middle : Table
  pub gave : GaveUp es old middle
  pub last : IsLastSite middle e
  pub left : new ≡ without_site middle e.block e.site.boundary

pub gave_pop : (es : List GivenUp) (e : GivenUp) (old new : Table) → GaveUp (es ++ e ∷ []) old new → GaveLast es e old new
gave_pop [] e old new gave = record { middle = old; gave = refl; last = gave.0; left = gave.1 }
gave_pop (x ∷ es) e old new gave =
    let r = gave_pop es e (without_site old x.block x.site.boundary) new gave.1 in
    record { middle = r.middle; gave = (gave.0, r.gave); last = r.last; left = r.left }

-- ---- a block's only site

pub put_here : (table : Table) (b : ℕ) (site : Site) → b < length table.rows → sites_in table b ≡ [] → sites_in (put_site table b site) b ≡ site ∷ []
put_here table b site inside none =
    get_or-set_same table.rows b (sites_in table b ++ site ∷ []) [] inside ∙ ap (λ xs. xs ++ site ∷ []) none

-- a block that had no site, and gave up the one that it got
pub put_left : (table : Table) (b : ℕ) (site : Site) → b < length table.rows → sites_in table b ≡ [] → without_site (put_site table b site) b site.boundary ≡ table
put_left table b site inside none =
    ap (λ rows. record { shape = table.shape; rows = rows })
    (set-set table.rows b (sites_in table b ++ site ∷ []) (sites_off site.boundary (sites_in (put_site table b site) b))
    ∙ ap (λ row. set table.rows b row) (ap (sites_off site.boundary) (put_here table b site inside none) ∙ single_off site ∙ sym none)
    ∙ set-get_or table.rows b [])

-- ---- the last site of a block with more than one

module _ (table : Table) (b : ℕ) (site : Site) (least : IsLeastSpread table b) (sites : List Site) (is : sites ≡ sites_in table b) (at : slice_get sites (length sites - 1) ≡ Some site) where
  pub last_of : IsLastSite table (record { block = b; site = site })
  last_of = record {
    within = least.within;
    others = take (length sites - 1) sites;
    some =
        let more = least.more in
        let size : length sites ≡ length (sites_in table b) = ap length is in
        omega (arith, more, size, length-take-le (length sites - 1) sites (omega arith));
    list = sym is ∙ split_last sites site at;
  }

  pub last_counts : 0 < count_on site.boundary (sites_in table b)
  last_counts = count_pos site.boundary (sites_in table b) site (subst (λ xs. Contains xs site) (sym last_of.list) (Contains-push last_of.others site)) refl

  pub last_within : IsTable table → site.boundary < table.shape.b
  last_within ok = ok.boundaries b site.boundary site.slot (subst (λ xs. Contains xs site) (sym last_of.list) (Contains-push last_of.others site))

pub single_within : (table : Table) (b : ℕ) (site : Site) → IsTable table → sites_in table b ≡ site ∷ [] → site.boundary < table.shape.b
single_within table b site ok only = ok.boundaries b site.boundary site.slot (subst (λ xs. Contains xs site) (sym only) (Contains-push [] site))

-- ---- the last site of a list, taken again

-- the site can be given to the block
pub record CanRetake (table : Table) (given : GivenUp) : Type 0 where
  pub block : given.block < table.shape.n
  pub boundary : given.site.boundary < table.shape.b
  pub slot : given.site.slot ≤ table.shape.k
  pub free : IsFree table given.site.boundary given.site.slot
  pub none : count_on given.site.boundary (sites_in table given.block) ≡ 0

module _ (items es : List GivenUp) (e : GivenUp) (before now : Table) (ok : IsTable before) (gave : GaveUp items before now) (popped : items ≡ es ++ e ∷ []) where
  split : GaveLast es e before now
  split = gave_pop es e before now (subst (λ xs. GaveUp xs before now) popped gave)

  sound : IsTable split.middle
  sound = gave_table es before split.middle ok split.gave

  pub can_retake : CanRetake now e
  can_retake =
      subst (λ t. CanRetake t e) (sym split.left)
      (record {
        block = split.last.within;
        boundary = sound.boundaries e.block e.site.boundary e.site.slot (stood split.middle e sound split.last);
        slot = sound.slots e.block e.site.boundary e.site.slot (stood split.middle e sound split.last);
        free = slot_free split.middle e sound split.last;
        none = none_left split.middle e sound split.last;
      })

  -- the table before that site was given up
  pub retaken : (new : Table) → ((table : Table) (others : List Site) → IsTable table → sites_in table e.block ≡ others ++ e.site ∷ [] → now ≡ without_site table e.block e.site.boundary → new ≡ table) → GaveUp es before new
  retaken new undone = subst (λ t. GaveUp es before t) (sym (undone split.middle split.last.others sound split.last.list split.left)) split.gave

-- what holds anyway holds after an `Err`
pub on_err : {A E : Type 0} (r : Result A E) (P : Type 0) → P → OnErr r P
on_err (Ok x) P holds = tt
on_err (Err x) P holds = holds
