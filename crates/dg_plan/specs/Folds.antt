-- The steps of the plan, each over the room that is left.
use Rattle.std.specs.Prelude.{ℕ, List, [], Option, Result, flat_map}
use Rattle.dg_model.specs.Plans.{Placed, Scattered, blocks_with, each_ok, is_kept, is_stray, place_file, place_kept, place_stray, places_of, stay_all, waiting}
use Rattle.dg_model.specs.declared.homes.Home.{Home}
use Rattle.dg_model.specs.declared.parents.Parent.{Parent}
use Rattle.dg_model.specs.declared.shapes.Shape.{Shape}
use Rattle.dg_model.specs.declared.wants.NoRoom.{NoRoom}
use Rattle.dg_model.specs.declared.wants.Want.{Want}

-- step 1
abbrev pub kept_placed : Shape → List (Option Want) → List ℕ → Result (List ℕ) NoRoom
kept_placed shape wants rooms = each_ok place_kept (flat_map (places_of shape) (blocks_with is_kept wants)) rooms

-- steps 2 and 3
abbrev pub files_placed : List (Option Want) → List Parent → List Home → List ℕ → Result Placed NoRoom
files_placed wants parents homes rooms =
    let stayed = stay_all wants homes (record { rooms = rooms; homes = [] }) in
    each_ok (place_file wants parents) (waiting wants stayed) stayed

-- step 4
abbrev pub strays_placed : List (Option Want) → List ℕ → Result Scattered NoRoom
strays_placed wants rooms = each_ok place_stray (blocks_with is_stray wants) (record { rooms = rooms; places = [] })
