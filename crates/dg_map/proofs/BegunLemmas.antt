-- The lists of sites once there is one more block, and the slots once a site of it is put there.
use Rattle.std.proofs.Common.{◌≡◌, ◌∙◌, ◌<◌, ◌≤◌, ◌+◌, ◌*◌, ◌≢◌, ◌^◌, ℕ, suc, List, [], ◌∷◌, ◌++◌, Option, None, Some, length, get_or, set, take, drop, nat_lt, refl, sym, ap, subst, ⊎_elim, arith}
use Rattle.std.specs.Global.{Vec}
use Rattle.std.proofs.Math.Nat.{suc-mul}
use Rattle.std.proofs.Math.Seq.{get_or-append_seam}
use Rattle.std.proofs.lemmas.Bool.{cases_eq, cases_lt}
use Rattle.std.proofs.lemmas.List.{ext_get_or, get_or-append-add, get_or-take, get_or_append_left, get_or_past, length-set, length_push}
use Rattle.std.proofs.lemmas.List.FromFn.{fill_by_all}
use Rattle.dg_model.proofs.PutLaws.{IsTable-empty, IsTable-put}
use Rattle.dg_model.specs.Shapes.{IsShape}
use Rattle.dg_model.specs.Tables.{IsFree, IsTable, Table, count_on, empty_table, put_site, sites_in}
use Rattle.dg_model.specs.declared.shapes.Shape.{Shape}
use Rattle.dg_model.specs.declared.sites.Site.{Site}
use Rattle.dg_map.proofs.AgreeLemmas.{agrees_empty, agrees_put, agrees_put_apart, free_slot}
use Rattle.dg_map.proofs.FitLemmas.{fits}
use Rattle.dg_map.proofs.FlatLemmas.{length_run, run_at}
use Rattle.dg_map.proofs.ListLemmas.{row_fits}
use Rattle.dg_map.proofs.MapLemmas.{each_set, empty_inside}
use Rattle.dg_map.proofs.RestoreLemmas.{no_site, restored_all}
use Rattle.dg_map.proofs.SlotLemmas.{few_used}
use Rattle.dg_map.specs.Begun.{AddsRow, AreFirst, AreRowsBelow, AreSlotsOf, GoesOn}
use Rattle.dg_map.specs.Bits.{Sets, has}
use Rattle.dg_map.specs.Maps.{Agrees, IsMap, table_of}
use Rattle.dg_map.specs.Restores.{AreSites, IsRestoredBelow}
use Rattle.dg_map.specs.Rows.{count_of, row_of}
use Rattle.dg_map.specs.Slots.{IsUnused, Puts, block_in}
use Rattle.dg_map.specs.declared.boundary_slots.Slots.{Slots}
use Rattle.dg_map.specs.declared.site_lists.SiteLists.{SiteLists}

-- ---- one more row

module _ (old new sites : List Site) (width : ℕ) (on : GoesOn old new sites width) (few : length sites ≤ width) where
  in_front : (j : ℕ) → j < length old + length sites → get_or new j no_site ≡ get_or (old ++ sites) j no_site
  in_front j low = sym (get_or-take (length old + length sites) new j no_site low) ∙ ap (λ (xs : List Site). get_or xs j no_site) on.front

  -- a run of the places that were there
  run_before : (s c : ℕ) → s + c ≤ length old → take c (drop s new) ≡ take c (drop s old)
  run_before s c within =
      let long = on.long in
      let now : length (take c (drop s new)) ≡ c = length_run new s c (omega (arith, long, within)) in
      let was : length (take c (drop s old)) ≡ c = length_run old s c within in
      ext_get_or no_site (take c (drop s new)) (take c (drop s old)) (now ∙ sym was) (λ i below.
      (let low : i < c = omega (arith, below, now) in
      run_at new s c i no_site low ∙ in_front (s + i) (omega (arith, low, within)) ∙ get_or_append_left old sites no_site (s + i) (omega (arith, low, within)) ∙ sym (run_at old s c i no_site low)))

  -- the sites stand behind them
  run_here : take (length sites) (drop (length old) new) ≡ sites
  run_here =
      let long = on.long in
      let c = length sites in
      let now : length (take c (drop (length old) new)) ≡ c = length_run new (length old) c (omega (arith, long, few)) in
      ext_get_or no_site (take c (drop (length old) new)) sites now (λ i below.
      (let low : i < c = omega (arith, below, now) in
      run_at new (length old) c i no_site low ∙ in_front (length old + i) (omega (arith, low)) ∙ get_or-append-add old sites i no_site))

module _ (old new : SiteLists) (sites : List Site) (sound : AreFirst old) (few : length sites ≤ old.width) (width : new.width ≡ old.width)
    (on : GoesOn old.sites.items new.sites.items sites old.width) (counts : new.counts.items ≡ old.counts.items ++ length sites ∷ []) where
  before : (b : ℕ) → b < length old.counts.items → count_of new b ≡ count_of old b
  before b low = ap (λ (xs : List ℕ). get_or xs b 0) counts ∙ get_or_append_left old.counts.items (length sites ∷ []) 0 b low

  here : count_of new (length old.counts.items) ≡ length sites
  here = ap (λ (xs : List ℕ). get_or xs (length old.counts.items) 0) counts ∙ get_or-append_seam old.counts.items (length sites) [] 0

  longer : length new.counts.items ≡ length old.counts.items + 1
  longer = ap length counts ∙ length_push old.counts.items (length sites)

  behind : (b : ℕ) → length old.counts.items < b → count_of new b ≡ 0
  behind b low = get_or_past new.counts.items b 0 (omega (arith, longer, low))

  by_place : (P : ℕ → Type 0) → ((b : ℕ) → b < length old.counts.items → P b) → P (length old.counts.items) → ((b : ℕ) → length old.counts.items < b → P b) → (b : ℕ) → P b
  by_place P low at high b = ⊎_elim (λ less. low b less) (λ le. ⊎_elim (λ same. subst P same at) (λ apart. high b (above b le apart)) (cases_eq (length old.counts.items) b)) (cases_lt b (length old.counts.items))
    where
      above : (b : ℕ) → length old.counts.items ≤ b → length old.counts.items ≢ b → length old.counts.items < b
      above b le apart = ⊎_elim (λ less. less) (λ back. absurd (apart (omega (arith, le, back)))) (cases_lt (length old.counts.items) b)

  row_before : (b : ℕ) → b < length old.counts.items → row_of new b ≡ row_of old b
  row_before b low =
      let fit = row_fits b (length old.counts.items) old.width low in
      let narrow = sound.counts b in
      let size = sound.size in
      ap (λ (c : ℕ). take c (drop (b * new.width) new.sites.items)) (before b low)
      ∙ ap (λ (w : ℕ). take (count_of old b) (drop (b * w) new.sites.items)) width
      ∙ run_before old.sites.items new.sites.items sites old.width on few (b * old.width) (count_of old b) (omega (arith, fit, narrow, size))

  row_here : row_of new (length old.counts.items) ≡ sites
  row_here =
      ap (λ (c : ℕ). take c (drop (length old.counts.items * new.width) new.sites.items)) here
      ∙ ap (λ (w : ℕ). take (length sites) (drop (length old.counts.items * w) new.sites.items)) width
      ∙ ap (λ (s : ℕ). take (length sites) (drop s new.sites.items)) (sym sound.size)
      ∙ run_here old.sites.items new.sites.items sites old.width on few

  adds_at : length old.counts.items < old.spread.bound → Sets old.spread new.spread (length old.counts.items) (nat_lt 1 (length sites)) → AddsRow old new sites
  adds_at left sets = record {
    sound = record {
      small = subst (λ (n : ℕ). n ≤ 2 ^ 20) (sym sets.bound) sound.small;
      narrow = subst (λ (w : ℕ). w ≤ 16) (sym width) sound.narrow;
      few = (let bound = sets.bound in omega (arith, bound, left, longer));
      size = (let long = on.long in let size = sound.size in let next = suc-mul (length old.counts.items) old.width in
          omega (arith, long, size, next) ∙ ap (λ (w : ℕ). suc (length old.counts.items) * w) (sym width) ∙ ap (λ (n : ℕ). n * new.width) (sym (longer ∙ omega arith)));
      counts = λ b. subst (λ (w : ℕ). count_of new b ≤ w) (sym width) (by_place (λ c. count_of new c ≤ old.width)
          (λ c low. subst (λ (n : ℕ). n ≤ old.width) (sym (before c low)) (sound.counts c))
          (subst (λ (n : ℕ). n ≤ old.width) (sym here) few)
          (λ c high. subst (λ (n : ℕ). n ≤ old.width) (sym (behind c high)) (omega arith)) b);
      bits = sets.sound;
      spread = by_place (λ c. has new.spread c ≡ nat_lt 1 (count_of new c))
          (λ c low. sets.others c (λ same. absurd (omega (arith, same, low))) ∙ sound.spread c ∙ ap (nat_lt 1) (sym (before c low)))
          (sets.here ∙ ap (nat_lt 1) (sym here))
          (λ c high. sets.others c (λ same. absurd (omega (arith, same, high))) ∙ sound.spread c ∙ ap (nat_lt 1) (get_or_past old.counts.items c 0 (omega (arith, high))) ∙ ap (nat_lt 1) (sym (behind c high)));
    };
    width = width;
    bound = sets.bound;
    size = longer;
    before = row_before;
    here = row_here;
  }

  pub adds_row : length old.counts.items < old.spread.bound → (block : ℕ) → block ≡ length old.counts.items → Sets old.spread new.spread block (nat_lt 1 (length sites)) → AddsRow old new sites
  adds_row left block at is = adds_at left (subst (λ (b : ℕ). Sets old.spread new.spread b (nat_lt 1 (length sites))) at is)

-- ---- one more site

no_block : (o : Option ℕ) → ((b : ℕ) → o ≡ Some b → ⊥) → o ≡ None
no_block None none = refl
no_block (Some b) none = absurd (none b refl)

-- a free slot has no block
pub slot_empty : (table : Table) (s slot : ℕ) (slots : Slots) → Agrees table s slots → IsFree table s slot → block_in slots slot ≡ None
slot_empty table s slot slots agrees free = no_block (block_in slots slot) (λ b some. free b (agrees.held slot b some))

pub slots_put : (table : Table) (b : ℕ) (boundaries : List Slots) (at new : Slots) (site : Site) → AreSlotsOf table boundaries → b < length table.rows → site.boundary < table.shape.b
    → count_on site.boundary (sites_in table b) ≡ 0 → at ≡ get_or boundaries site.boundary at → Puts at new site.slot b → AreSlotsOf (put_site table b site) (set boundaries site.boundary new)
slots_put table b boundaries at new site are within on none is puts =
    let agrees : Agrees table site.boundary at = subst (Agrees table site.boundary) (sym is) (are.each site.boundary at on) in
    let count = are.count in record {
      is_table = IsTable-put table b site within are.is_table on (omega (arith, puts.within, agrees.most)) (free_slot table site.boundary at site.slot agrees puts.free) none
          (omega (arith, few_used new puts.sound, puts.most, puts.count, agrees.most, agrees.used));
      count = length-set boundaries site.boundary new ∙ count;
      each = λ t d low. each_set (Agrees (put_site table b site)) boundaries site.boundary new (omega (arith, on, count)) (agrees_put table b within site.boundary at new site refl agrees puts)
          (λ q e inside ne. agrees_put_apart table b within q (get_or boundaries q e) site ne (are.each q e (omega (arith, inside, count)))) t d (omega (arith, low, count));
    }

-- ---- all blocks

pub slots_none : (shape : Shape) (boundaries : List Slots) → IsShape shape → length boundaries ≡ shape.b → ((s : ℕ) (d : Slots) → s < length boundaries → IsUnused (shape.k + 1) (get_or boundaries s d))
    → AreSlotsOf (empty_table shape) boundaries
slots_none shape boundaries ok count unused = record {
  is_table = IsTable-empty shape ok;
  count = count;
  each = λ s d low. agrees_empty shape s (get_or boundaries s d) (unused s d (omega (arith, low, count)));
}

pub row_is_few : (whole : Table) (b : ℕ) (sites : List Site) (width : ℕ) → AreSites whole → sites ≡ sites_in whole b → width ≡ whole.shape.b → length sites ≤ width
row_is_few whole b sites width are is wide =
    subst (λ (xs : List Site). length xs ≤ width) (sym is)
    (subst (λ (w : ℕ). length (sites_in whole b) ≤ w) (sym wide) (fits whole.shape.b (sites_in whole b) (λ x there. are.boundaries b x.boundary x.slot there) (are.one_site b)))

pub rows_more : (whole : Table) (b : ℕ) (old new : SiteLists) (sites : List Site) → AreRowsBelow whole b old → AddsRow old new sites → sites ≡ sites_in whole b → AreRowsBelow whole (b + 1) new
rows_more whole b old new sites below adds is = record {
  sound = adds.sound;
  width = adds.width ∙ below.width;
  bound = adds.bound ∙ below.bound;
  size = adds.size ∙ ap (λ (n : ℕ). n + 1) below.size;
  rows = λ c low. ⊎_elim
      (λ less. adds.before c (subst (λ (n : ℕ). c < n) (sym below.size) less) ∙ below.rows c less)
      (λ le. (let same : c ≡ b = omega (arith, low, le) in
      ap (row_of new) (same ∙ sym below.size) ∙ adds.here ∙ is ∙ ap (sites_in whole) (sym same)))
      (cases_lt c b);
}

-- the slots once all blocks have their sites
pub slots_whole : (whole : Table) → AreSites whole → (b : ℕ) (boundaries : List Slots) → b ≡ whole.shape.n → (now : Table) × IsRestoredBelow whole now b × AreSlotsOf now boundaries → AreSlotsOf whole boundaries
slots_whole whole are b boundaries all (now, below, slots) = subst (λ (t : Table). AreSlotsOf t boundaries) (restored_all whole are now b slots.is_table below all) slots

-- lists and slots of all blocks are a map
pub begun_map : (whole : Table) (b : ℕ) (lists : SiteLists) (boundaries : Vec Slots) → AreSites whole → AreRowsBelow whole b lists → b ≡ whole.shape.n → AreSlotsOf whole boundaries.items
    → IsMap (empty_inside whole.shape lists boundaries) × (table_of (empty_inside whole.shape lists boundaries) ≡ whole)
begun_map whole b lists boundaries are below all slots = (
  record {
    table = subst IsTable (sym is) slots.is_table;
    lists = record {
      small = (let few = below.sound.few in let small = below.sound.small in omega (arith, few, small));
      narrow = below.sound.narrow;
      size = below.sound.size;
      counts = below.sound.counts;
      bits = below.sound.bits;
      bound = below.bound ∙ sym (below.size ∙ all);
      spread = below.sound.spread;
    };
    width = below.width;
    blocks = below.size ∙ all;
    count = slots.count;
    each = λ s d low. subst (λ (t : Table). Agrees t s (get_or boundaries.items s d)) (sym is) (slots.each s d low);
  },
  is,
)
  where
    is : table_of (empty_inside whole.shape lists boundaries) ≡ whole
    is =
        ap (λ (rows : List (List Site)). record { shape = whole.shape; rows = rows })
        (sym (fill_by_all (row_of lists) whole.rows whole.shape.n [] are.size (λ k low. sym (below.rows k (subst (λ (n : ℕ). k < n) (sym all) low)))))
