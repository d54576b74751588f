-- What the tables of a map stand for.
use Rattle.std.specs.Prelude.{◌≡◌, ◌<◌, ◌+◌, ℕ, Some, length, map, slice_index_or}
use Rattle.std.specs.List.{range_with_len}
use Rattle.dg_map.specs.declared.boundary_slots.Slots.{Slots}
use Rattle.dg_map.specs.declared.maps.Map.TheInside.{Inside}
use Rattle.dg_map.specs.Rows.{IsLists, row_of}
use Rattle.dg_map.specs.Slots.{IsSlots, block_in, used_count}
use Rattle.dg_model.specs.Tables.{IsTable, StandsIn, Table, used_in}

-- the table that these site lists stand for
abbrev pub table_of : Inside → Table
table_of inside = record { shape = inside.shape; rows = map (row_of inside.lists) (range_with_len 0 inside.shape.n) }

-- the slots of boundary s hold just the blocks that the table has there
pub record Agrees (table : Table) (s : ℕ) (slots : Slots) : Type 0 where
  pub sound : IsSlots slots
  pub most : slots.most ≡ table.shape.k + 1
  pub used : used_count slots ≡ used_in table s
  pub held : (slot b : ℕ) → block_in slots slot ≡ Some b → StandsIn table b s slot
  pub found : (slot b : ℕ) → StandsIn table b s slot → block_in slots slot ≡ Some b

-- what the tables of a map keep
pub record IsMap (inside : Inside) : Type 0 where
  pub table : IsTable (table_of inside)
  pub lists : IsLists inside.lists
  pub width : inside.lists.width ≡ inside.shape.b
  pub blocks : length inside.lists.counts.items ≡ inside.shape.n
  pub count : length inside.boundaries.items ≡ inside.shape.b
  pub each : (s : ℕ) (d : Slots) → s < inside.shape.b → Agrees (table_of inside) s (slice_index_or inside.boundaries.items s d)
