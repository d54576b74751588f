-- Site lists and slots that one block after another is put into. The rules are this project's own.
use Rattle.std.specs.Prelude.{◌≡◌, ◌++◌, ◌+◌, ◌*◌, ◌<◌, ◌≤◌, ◌^◌, ℕ, List, length, nat_lt, slice_index_or, take}
use Rattle.dg_model.specs.Tables.{IsTable, Table, sites_in}
use Rattle.dg_model.specs.declared.sites.Site.{Site}
use Rattle.dg_map.specs.Bits.{IsBits, has}
use Rattle.dg_map.specs.Maps.{Agrees}
use Rattle.dg_map.specs.Rows.{count_of, row_of}
use Rattle.dg_map.specs.declared.boundary_slots.Slots.{Slots}
use Rattle.dg_map.specs.declared.site_lists.SiteLists.{SiteLists}

-- what the lists of the first blocks keep, where `spread` has a bit for each block that there is to be
pub record AreFirst (lists : SiteLists) : Type 0 where
  pub small : lists.spread.bound ≤ 2 ^ 20
  pub narrow : lists.width ≤ 16
  pub few : length lists.counts.items ≤ lists.spread.bound
  pub size : length lists.sites.items ≡ length lists.counts.items * lists.width
  pub counts : (b : ℕ) → count_of lists b ≤ lists.width
  pub bits : IsBits lists.spread
  pub spread : (b : ℕ) → has lists.spread b ≡ nat_lt 1 (count_of lists b)

-- there is no block yet, and there are to be so many, with room for a site on each of so many boundaries
pub record AreNone (blocks boundaries : ℕ) (lists : SiteLists) : Type 0 where
  pub sound : AreFirst lists
  pub width : lists.width ≡ boundaries
  pub bound : lists.spread.bound ≡ blocks
  pub size : length lists.counts.items ≡ 0

-- the list goes on with these sites, and with as many others as a row of so many places lacks
pub record GoesOn (old new sites : List Site) (width : ℕ) : Type 0 where
  pub front : take (length old + length sites) new ≡ old ++ sites
  pub long : length new ≡ length old + width

-- there is one more block, and it has these sites
pub record AddsRow (old new : SiteLists) (sites : List Site) : Type 0 where
  pub sound : AreFirst new
  pub width : new.width ≡ old.width
  pub bound : new.spread.bound ≡ old.spread.bound
  pub size : length new.counts.items ≡ length old.counts.items + 1
  pub before : (b : ℕ) → b < length old.counts.items → row_of new b ≡ row_of old b
  pub here : row_of new (length old.counts.items) ≡ sites

-- these are the lists of the blocks below a number
pub record AreRowsBelow (whole : Table) (count : ℕ) (lists : SiteLists) : Type 0 where
  pub sound : AreFirst lists
  pub width : lists.width ≡ whole.shape.b
  pub bound : lists.spread.bound ≡ whole.shape.n
  pub size : length lists.counts.items ≡ count
  pub rows : (b : ℕ) → b < count → row_of lists b ≡ sites_in whole b

-- these are the slots of the boundaries of a table
pub record AreSlotsOf (table : Table) (boundaries : List Slots) : Type 0 where
  pub is_table : IsTable table
  pub count : length boundaries ≡ table.shape.b
  pub each : (s : ℕ) (d : Slots) → s < table.shape.b → Agrees table s (slice_index_or boundaries s d)
