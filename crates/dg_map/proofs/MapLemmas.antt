-- What the tables of a map stand for, once a list of sites and the slots of a boundary have changed.
use Rattle.std.proofs.Common.{◌≡◌, ◌<◌, ◌≤◌, ◌+◌, ◌≢◌, ℕ, cond, List, [], ◌∷◌, ◌++◌, length, get_or, set, map, replicate, Option, Some, None, IsSome, IfSome, MatchOption, refl, sym, ◌∙◌, ap, subst, ⊎_elim, arith}
use Rattle.std.specs.Global.{Vec}
use Rattle.std.specs.List.{range_with_len}
use Rattle.std.proofs.lemmas.Bool.{cases_eq, cases_lt, false≢true}
use Rattle.std.proofs.lemmas.List.{get_or-replicate, get_or-set_same, get_or-set_other, get_or_past, length-replicate, length-set}
use Rattle.std.proofs.lemmas.List.FromFn.{fill_by_all, get_or-map-range_with_len, length-map-range_with_len}
use Rattle.std.specs.List.{All, Contains}
use Rattle.std.specs.Vec.{with_item}
use Rattle.dg_model.specs.declared.sites.Site.{Site}
use Rattle.dg_model.specs.declared.shapes.Shape.{Shape}
use Rattle.dg_model.specs.Shapes.{IsShape}
use Rattle.dg_map.specs.declared.boundary_slots.Slots.{Slots}
use Rattle.dg_map.specs.declared.maps.Map.TheInside.{Inside}
use Rattle.dg_map.specs.declared.site_lists.SiteLists.{SiteLists}
use Rattle.dg_map.specs.Maps.{Agrees, IsMap, table_of}
use Rattle.dg_map.specs.Slots.{GivesUp, IsUnused, Puts, block_in}
use Rattle.dg_map.specs.Takes.{TakesLowest}
use Rattle.dg_model.specs.Tables.{IsFree, IsLowestFree, IsTable, StandsIn, Table, count_on, empty_table, put_site, sites_in, without_site, sites_off}
use Rattle.dg_model.proofs.FreeLaws.{stands_within}
use Rattle.dg_model.proofs.PutLaws.{IsTable-empty, IsTable-put, IsTable-without, site_at}
use Rattle.dg_model.proofs.SiteLists.{apart_test, same_test}
use Rattle.dg_map.proofs.AgreeLemmas.{agrees_empty, agrees_put, agrees_put_apart, agrees_without, agrees_without_apart, free_slot}
use Rattle.dg_map.proofs.SlotLemmas.{few_used}
use Rattle.dg_map.proofs.ListLemmas.{row_past}
use Rattle.dg_map.proofs.FitLemmas.{fits_more}
use Rattle.dg_map.specs.Spreads.{HasNoSpread, IsLeastSpread}
use Rattle.dg_map.specs.Rows.{Appends, IsBare, IsFirstSpread, IsUnspread, SetsRow, row_of}

pub row_at : (lists : SiteLists) (n b : ℕ) → b < n → get_or (map (row_of lists) (range_with_len 0 n)) b [] ≡ row_of lists b
row_at lists n b lt = get_or-map-range_with_len (row_of lists) 0 n b b [] lt (omega arith)

pub rows_set : (old new : SiteLists) (n b : ℕ) (row : List Site) → b < n → SetsRow old new b row → map (row_of new) (range_with_len 0 n) ≡ set (map (row_of old) (range_with_len 0 n)) b row
rows_set old new n b row within sets =
    sym (fill_by_all (row_of new) (set xs b row) n [] (length-set xs b row ∙ length-map-range_with_len (row_of old) 0 n) at)
  where
    xs : List (List Site)
    xs = map (row_of old) (range_with_len 0 n)

    at : (k : ℕ) → k < n → get_or (set xs b row) k [] ≡ row_of new k
    at k lt =
        ⊎_elim
        (λ e. ap (λ q. get_or (set xs b row) q []) (sym e) ∙ get_or-set_same xs b row [] (omega (arith, length-map-range_with_len (row_of old) 0 n)) ∙ sym (sets.rows k ∙ ap (λ v. cond v row (row_of old k)) (same_test b k e)))
        (λ ne. get_or-set_other xs b k row [] (λ f. ne (sym f)) ∙ row_at old n k lt ∙ sym (sets.rows k ∙ ap (λ v. cond v row (row_of old k)) (apart_test b k ne)))
        (cases_eq b k)

-- the tables with other lists and with other slots of boundary s
abbrev pub with_slots : Inside → SiteLists → ℕ → Slots → Inside
with_slots old lists s slots = record { shape = old.shape; lists = lists; boundaries = with_item old.boundaries s slots }

-- what holds of each boundary's slots holds once those of boundary s have changed
pub each_set : (P : ℕ → Slots → Type 0) (items : List Slots) (s : ℕ) (slots : Slots) → s < length items → P s slots → ((t : ℕ) (d : Slots) → t < length items → s ≢ t → P t (get_or items t d)) → (t : ℕ) (d : Slots) → t < length items → P t (get_or (set items s slots) t d)
each_set P items s slots lt here others t d within =
    ⊎_elim
    (λ e. subst (λ q. P q (get_or (set items s slots) q d)) e (subst (P s) (sym (get_or-set_same items s slots d lt)) here))
    (λ ne. subst (P t) (sym (get_or-set_other items s t slots d (λ f. ne (sym f)))) (others t d within ne))
    (cases_eq s t)

-- the tables of a map in which no block has a site
abbrev pub empty_inside : Shape → SiteLists → Vec Slots → Inside
empty_inside shape lists boundaries = record { shape = shape; lists = lists; boundaries = boundaries }

pub empty_map : (shape : Shape) (lists : SiteLists) (boundaries : Vec Slots) → IsShape shape → IsBare shape.n shape.b lists → length boundaries.items ≡ shape.b → All (IsUnused (shape.k + 1)) boundaries.items → IsMap (empty_inside shape lists boundaries) × (table_of (empty_inside shape lists boundaries) ≡ empty_table shape)
empty_map shape lists boundaries ok bare count unused = (
  record {
    table = subst IsTable (sym is) (IsTable-empty shape ok);
    lists = bare.sound;
    width = bare.width;
    blocks = bare.size;
    count = count;
    each = λ s d lt. subst (λ t. Agrees t s (get_or boundaries.items s d)) (sym is) (agrees_empty shape s (get_or boundaries.items s d) (unused s d (omega arith)));
  },
  is,
)
  where
    is : table_of (empty_inside shape lists boundaries) ≡ empty_table shape
    is =
        ap (λ rows. record { shape = shape; rows = rows })
        (sym (fill_by_all (row_of lists) (replicate shape.n []) shape.n [] (length-replicate shape.n []) (λ k lt. get_or-replicate shape.n k [] [] lt ∙ sym (bare.rows k))))

module _ (old : Inside) (ok : IsMap old) where
  -- the lists of all blocks, once block b has others
  table_set : (lists : SiteLists) (s b : ℕ) (slots : Slots) (row : List Site) → b < old.shape.n → SetsRow old.lists lists b row → table_of (with_slots old lists s slots) ≡ record { shape = old.shape; rows = set (table_of old).rows b row }
  table_set lists s b slots row within sets = ap (λ rows. record { shape = old.shape; rows = rows }) (rows_set old.lists lists old.shape.n b row within sets)

  slots_at : (s : ℕ) (at : Slots) → s < old.shape.b → at ≡ get_or old.boundaries.items s at → Agrees (table_of old) s at
  slots_at s at lt is = subst (Agrees (table_of old) s) (sym is) (ok.each s at lt)

  -- the map of a table, once the slots of boundary s agree with it, and those of all others
  built : (lists : SiteLists) (s : ℕ) (slots : Slots) (table : Table) (b : ℕ) (row : List Site) → SetsRow old.lists lists b row → s < old.shape.b → table_of (with_slots old lists s slots) ≡ table → IsTable table → Agrees table s slots → ((t : ℕ) (d : Slots) → t < old.shape.b → s ≢ t → Agrees table t (get_or old.boundaries.items t d)) → IsMap (with_slots old lists s slots)
  built lists s slots table b row sets lt is sound here others = record {
    table = subst IsTable (sym is) sound;
    lists = sets.sound;
    width = sets.width ∙ ok.width;
    blocks = sets.size ∙ ok.blocks;
    count = length-set old.boundaries.items s slots ∙ ok.count;
    each = λ t d within. subst (λ u. Agrees u t (get_or (set old.boundaries.items s slots) t d)) (sym is)
        (each_set (Agrees table) old.boundaries.items s slots (omega (arith, ok.count)) here (λ q e inside ne. others q e (omega (arith, ok.count)) ne) t d (omega (arith, ok.count)));
  }

  pub map_put : (lists : SiteLists) (at slots : Slots) (b : ℕ) (site : Site) → b < old.shape.n → site.boundary < old.shape.b → count_on site.boundary (sites_in (table_of old) b) ≡ 0 → at ≡ get_or old.boundaries.items site.boundary at → Puts at slots site.slot b → Appends old.lists lists b site → IsMap (with_slots old lists site.boundary slots) × (table_of (with_slots old lists site.boundary slots) ≡ put_site (table_of old) b site)
  map_put lists at slots b site within lt none is puts appends =
      let e : table_of (with_slots old lists site.boundary slots) ≡ put_site (table_of old) b site =
      table_set lists site.boundary b slots (row_of old.lists b ++ site ∷ []) within appends
      ∙ ap (λ row. record { shape = old.shape; rows = set (table_of old).rows b (row ++ site ∷ []) }) (sym (row_at old.lists old.shape.n b within)) in
      let long : b < length (table_of old).rows = omega (arith, ok.table.size) in
      let agrees : Agrees (table_of old) site.boundary at = slots_at site.boundary at lt is in (
        built lists site.boundary slots (put_site (table_of old) b site) b (row_of old.lists b ++ site ∷ []) appends lt e
            (IsTable-put (table_of old) b site long ok.table lt (omega (arith, puts.within, agrees.most)) (free_slot (table_of old) site.boundary at site.slot agrees puts.free) none
            (omega (arith, few_used slots puts.sound, puts.most, puts.count, agrees.most, agrees.used)))
            (agrees_put (table_of old) b long site.boundary at slots site refl agrees puts)
            (λ t d inside ne. agrees_put_apart (table_of old) b long t (get_or old.boundaries.items t d) site ne (ok.each t d inside)),
        e,
      )

  pub map_without : (lists : SiteLists) (at slots : Slots) (b s slot : ℕ) → b < old.shape.n → s < old.shape.b → 0 < count_on s (sites_in (table_of old) b) → at ≡ get_or old.boundaries.items s at → Contains (row_of old.lists b) (site_at s slot) → GivesUp at slots slot → SetsRow old.lists lists b (sites_off s (row_of old.lists b)) → IsMap (with_slots old lists s slots) × (table_of (with_slots old lists s slots) ≡ without_site (table_of old) b s)
  map_without lists at slots b s slot within lt some is stood gives sets =
      let e : table_of (with_slots old lists s slots) ≡ without_site (table_of old) b s =
      table_set lists s b slots (sites_off s (row_of old.lists b)) within sets
      ∙ ap (λ row. record { shape = old.shape; rows = set (table_of old).rows b (sites_off s row) }) (sym (row_at old.lists old.shape.n b within)) in
      let long : b < length (table_of old).rows = omega (arith, ok.table.size) in
      let there : StandsIn (table_of old) b s slot = subst (λ row. Contains row (site_at s slot)) (sym (row_at old.lists old.shape.n b within)) stood in
      let agrees : Agrees (table_of old) s at = slots_at s at lt is in (
        built lists s slots (without_site (table_of old) b s) b (sites_off s (row_of old.lists b)) sets lt e
            (IsTable-without (table_of old) b s long ok.table)
            (agrees_without (table_of old) b long s slot at slots ok.table there (omega (arith, ok.table.one_site b s)) agrees gives)
            (λ t d inside ne. agrees_without_apart (table_of old) b long s t (get_or old.boundaries.items t d) ne (ok.each t d inside)),
        e,
      )

  some_is : (o : Option ℕ) → IsSome o → (b : ℕ) × (o ≡ Some b)
  some_is None h = absurd (false≢true h)
  some_is (Some b) h = (b, refl)

  none_is : (o : Option ℕ) → ((b : ℕ) → o ≡ Some b → ⊥) → o ≡ None
  none_is None h = refl
  none_is (Some b) h = absurd (h b refl)

  lowest_free : (s slot : ℕ) (at : Slots) → s < old.shape.b → at ≡ get_or old.boundaries.items s at → block_in at slot ≡ None → ((k : ℕ) → k < slot → IsSome (block_in at k)) → IsLowestFree (table_of old) s slot
  lowest_free s slot at lt is none lower =
      let agrees : Agrees (table_of old) s at = slots_at s at lt is in
      record {
        free = free_slot (table_of old) s at slot agrees none;
        lower = λ k below. let found : (b : ℕ) × (block_in at k ≡ Some b) = some_is (block_in at k) (lower k below) in (found.0, agrees.held k found.0 found.1);
      }

  -- what `take_lowest` leaves, of the table that the map stood for
  pub taken_lowest : (table : Table) → table_of old ≡ table → (lists : SiteLists) (at slots : Slots) (b s : ℕ) (site : Site) → b < table.shape.n → s < table.shape.b → count_on s (sites_in table b) ≡ 0 → at ≡ get_or old.boundaries.items s at → Puts at slots site.slot b → Appends old.lists lists b site → site.boundary ≡ s → ((k : ℕ) → k < site.slot → IsSome (block_in at k)) → IsMap (with_slots old lists s slots) × TakesLowest table b s site (table_of (with_slots old lists s slots))
  taken_lowest table e lists at slots b s site =
      subst
      (λ t. b < t.shape.n → s < t.shape.b → count_on s (sites_in t b) ≡ 0 → at ≡ get_or old.boundaries.items s at → Puts at slots site.slot b → Appends old.lists lists b site → site.boundary ≡ s → ((k : ℕ) → k < site.slot → IsSome (block_in at k)) → IsMap (with_slots old lists s slots) × TakesLowest t b s site (table_of (with_slots old lists s slots)))
      e
      of_old
    where
      of_old : b < old.shape.n → s < old.shape.b → count_on s (sites_in (table_of old) b) ≡ 0 → at ≡ get_or old.boundaries.items s at → Puts at slots site.slot b → Appends old.lists lists b site → site.boundary ≡ s → ((k : ℕ) → k < site.slot → IsSome (block_in at k)) → IsMap (with_slots old lists s slots) × TakesLowest (table_of old) b s site (table_of (with_slots old lists s slots))
      of_old within lt none is puts appends on lowest =
          let done : IsMap (with_slots old lists s slots) × (table_of (with_slots old lists s slots) ≡ put_site (table_of old) b site) =
          subst
          (λ t. t < old.shape.b → count_on t (sites_in (table_of old) b) ≡ 0 → at ≡ get_or old.boundaries.items t at → IsMap (with_slots old lists t slots) × (table_of (with_slots old lists t slots) ≡ put_site (table_of old) b site))
          on
          (λ inside off here. map_put lists at slots b site within inside off here puts appends)
          lt none is in
          (done.0, record { on = on; lowest = lowest_free s site.slot at lt is puts.free lowest; taken = done.1 })

  -- a free slot has no block
  pub slot_none : (table : Table) → table_of old ≡ table → (s slot : ℕ) (at : Slots) → s < table.shape.b → at ≡ get_or old.boundaries.items s at → IsFree table s slot → block_in at slot ≡ None
  slot_none table e s slot at =
      subst
      (λ t. s < t.shape.b → at ≡ get_or old.boundaries.items s at → IsFree t s slot → block_in at slot ≡ None)
      e
      (λ lt is free. none_is (block_in at slot) (λ b some. free b ((slots_at s at lt is).held slot b some)))

  -- the sites of a block, of the table that the map stands for
  pub row_in : (table : Table) → table_of old ≡ table → (b : ℕ) → b < table.shape.n → row_of old.lists b ≡ sites_in table b
  row_in table e b = subst (λ t. b < t.shape.n → row_of old.lists b ≡ sites_in t b) e (λ within. sym (row_at old.lists old.shape.n b within))

  -- what `retake` leaves
  pub taken_at : (table : Table) → table_of old ≡ table → (lists : SiteLists) (at slots : Slots) (b : ℕ) (site : Site) → b < table.shape.n → site.boundary < table.shape.b → count_on site.boundary (sites_in table b) ≡ 0 → at ≡ get_or old.boundaries.items site.boundary at → Puts at slots site.slot b → Appends old.lists lists b site → IsMap (with_slots old lists site.boundary slots) × (table_of (with_slots old lists site.boundary slots) ≡ put_site table b site)
  taken_at table e lists at slots b site =
      subst
      (λ t. b < t.shape.n → site.boundary < t.shape.b → count_on site.boundary (sites_in t b) ≡ 0 → at ≡ get_or old.boundaries.items site.boundary at → Puts at slots site.slot b → Appends old.lists lists b site → IsMap (with_slots old lists site.boundary slots) × (table_of (with_slots old lists site.boundary slots) ≡ put_site t b site))
      e
      (map_put lists at slots b site)

  -- a block without a site on some boundary has a free place in its row
  pub room_for : (table : Table) → table_of old ≡ table → (b s : ℕ) → b < table.shape.n → s < table.shape.b → count_on s (sites_in table b) ≡ 0 → length (row_of old.lists b) < old.lists.width
  room_for table e b s within lt none =
      let sound : IsTable table = subst IsTable e ok.table in
      let row : row_of old.lists b ≡ sites_in table b = row_in table e b within in
      let fewer = fits_more table.shape.b (sites_in table b) s (λ x there. sound.boundaries b x.boundary x.slot there) (sound.one_site b) lt none in
      omega (arith, fewer, ap length row, ok.width, ap (λ (t : Table). t.shape.b) e)

  -- what `drop_site` leaves
  pub dropped_at : (table : Table) → table_of old ≡ table → (lists : SiteLists) (at slots : Slots) (b s slot : ℕ) → b < table.shape.n → s < table.shape.b → 0 < count_on s (sites_in table b) → at ≡ get_or old.boundaries.items s at → Contains (row_of old.lists b) (site_at s slot) → GivesUp at slots slot → SetsRow old.lists lists b (sites_off s (row_of old.lists b)) → IsMap (with_slots old lists s slots) × (table_of (with_slots old lists s slots) ≡ without_site table b s)
  dropped_at table e lists at slots b s slot =
      subst
      (λ t. b < t.shape.n → s < t.shape.b → 0 < count_on s (sites_in t b) → at ≡ get_or old.boundaries.items s at → Contains (row_of old.lists b) (site_at s slot) → GivesUp at slots slot → SetsRow old.lists lists b (sites_off s (row_of old.lists b)) → IsMap (with_slots old lists s slots) × (table_of (with_slots old lists s slots) ≡ without_site t b s))
      e
      (map_without lists at slots b s slot)

  -- the slot of a block's site is used
  pub slot_used : (table : Table) → table_of old ≡ table → (s slot b : ℕ) (at : Slots) → b < table.shape.n → s < table.shape.b → at ≡ get_or old.boundaries.items s at → Contains (row_of old.lists b) (site_at s slot) → IsSome (block_in at slot)
  slot_used table e s slot b at =
      subst
      (λ t. b < t.shape.n → s < t.shape.b → at ≡ get_or old.boundaries.items s at → Contains (row_of old.lists b) (site_at s slot) → IsSome (block_in at slot))
      e
      (λ within lt is stood. subst IsSome (sym ((slots_at s at lt is).found slot b (subst (λ row. Contains row (site_at s slot)) (sym (row_at old.lists old.shape.n b within)) stood))) refl)

  -- the block in a slot, and none past the boundaries
  pub block_of : (table : Table) → table_of old ≡ table → (s slot : ℕ) (at : Slots) (r : Option ℕ) → s < old.shape.b → at ≡ get_or old.boundaries.items s at → r ≡ block_in at slot → MatchOption r (IsFree table s slot) (λ b. StandsIn table b s slot)
  block_of table e s slot at r lt is found =
      subst (λ t. MatchOption r (IsFree t s slot) (λ b. StandsIn t b s slot)) e (cases r found)
    where
      cases : (r : Option ℕ) → r ≡ block_in at slot → MatchOption r (IsFree (table_of old) s slot) (λ b. StandsIn (table_of old) b s slot)
      cases None h = free_slot (table_of old) s at slot (slots_at s at lt is) (sym h)
      cases (Some b) h = (slots_at s at lt is).held slot b (sym h)

  pub block_in_range : (table : Table) → table_of old ≡ table → (s slot : ℕ) (r : Option ℕ) → MatchOption r (IsFree table s slot) (λ b. StandsIn table b s slot) → IfSome r (λ b. b < table.shape.n)
  block_in_range table e s slot None h = tt
  block_in_range table e s slot (Some b) h =
      let sound : IsTable table = subst IsTable e ok.table in
      omega (arith, stands_within table b s slot h, sound.size)

  pub none_past : (table : Table) → table_of old ≡ table → (s slot : ℕ) → old.shape.b ≤ s → IsFree table s slot
  none_past table e s slot past = subst (λ t. IsFree t s slot) e (λ b h. absurd (omega (arith, ok.table.boundaries b s slot h)))

  -- the sites of a block of the tables, on a boundary where it has one in the table that they stand for
  pub count_in : (table : Table) → table_of old ≡ table → (b s : ℕ) → b < table.shape.n → 0 < count_on s (sites_in table b) → 0 < count_on s (row_of old.lists b)
  count_in table e b s within some = subst (λ row. 0 < count_on s row) (sym (row_in table e b within)) some

  -- a block past the last has no sites, in the lists and in the table
  row_everywhere : (table : Table) → table_of old ≡ table → (b : ℕ) → length (row_of old.lists b) ≡ length (sites_in table b)
  row_everywhere table e b =
      ⊎_elim
      (λ within. ap length (row_in table e b within))
      (λ past.
      let sound : IsTable table = subst IsTable e ok.table in
      let none : sites_in table b ≡ [] = get_or_past table.rows b [] (omega (arith, sound.size, past)) in
      ap length (row_past old.lists b (omega (arith, ok.blocks, ap (λ (t : Table). t.shape.n) e, past)) ∙ sym none))
      (cases_lt b table.shape.n)

  no_spread : (table : Table) → table_of old ≡ table → IsUnspread old.lists → HasNoSpread table
  no_spread table e none b = omega (arith, row_everywhere table e b, none b)

  least_spread_of : (table : Table) → table_of old ≡ table → (b : ℕ) → IsFirstSpread old.lists b → IsLeastSpread table b
  least_spread_of table e b first = record {
    spread = omega (arith, row_everywhere table e b, first.spread);
    least = λ c some. first.least c (omega (arith, row_everywhere table e c, some));
  }

  pub spread_of : (table : Table) → table_of old ≡ table → (r : Option ℕ) → MatchOption r (IsUnspread old.lists) (IsFirstSpread old.lists) → MatchOption r (HasNoSpread table) (IsLeastSpread table)
  spread_of table e None none = no_spread table e none
  spread_of table e (Some b) first = least_spread_of table e b first
