-- The places of strays, as marks.
use Rattle.std.specs.Prelude.{◌≡◌, ◌^◌, ℕ, List, Option, Some, None, Ok, slice_index, length}
use Rattle.dg_model.specs.Plans.{Placement, Scattered, place_in}
use Rattle.dg_plan.specs.Folds.{strays_placed}
use Rattle.dg_model.specs.declared.wants.Want.{Want}

-- a place as a mark, or the mark that was there
abbrev pub mark_of : Option ℕ → ℕ → ℕ
mark_of None before = before
mark_of (Some s) before = 2 ^ s

-- the marks are those before, but for these places
abbrev pub AreMarked : List Placement → List ℕ → List ℕ → Type 0
AreMarked places before now = (b : ℕ) → slice_index now b ≡ mark_of (place_in places b) (slice_index before b)

-- each stray has a place
pub record HasSeats (wants : List (Option Want)) (before rooms marks_before marks : List ℕ) : Type 0 where
  pub scattered : Scattered
  pub placed : strays_placed wants before ≡ Ok scattered
  pub left : rooms ≡ scattered.rooms
  pub marked : AreMarked scattered.places marks_before marks
  pub size : length marks ≡ length marks_before
