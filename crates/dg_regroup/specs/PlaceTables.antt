-- A table of the places that boundaries get.
use Rattle.std.specs.Prelude.{◌≡◌, ℕ, List, None, length, slice_index_or}
use Rattle.dg_io.specs.Reduced.{places_left}
use Rattle.dg_regroup.specs.Cuts.{new_place}
use Rattle.dg_regroup.specs.declared.places.Places.TheInside.{Inside}

-- the boundaries that are left, by their old places
abbrev pub left_by : Inside → List ℕ
left_by table = places_left table.lost table.boundaries

-- it has the new place of each boundary
pub record ArePlaces (table : Inside) : Type 0 where
  pub places : (s : ℕ) → slice_index_or table.places s None ≡ new_place (left_by table) s
  pub count : table.count ≡ length (left_by table)
