-- A row of boundaries over a rack: what a store is opened with, and what it gives back.
use Rattle.std.specs.Prelude.{◌≡◌, ◌≢◌, ◌+◌, ◌/◌, ◌≤◌, ℕ, List, Option, Some, None, IfSome, length, slice_get}
use Rattle.dg_io.specs.declared.outside.Rack.{Ghosts}
use Rattle.dg_model.specs.Saves.{member_length}
use Rattle.dg_model.specs.declared.members.MemberState.{MemberState}
use Rattle.dg_model.specs.declared.members.MemberState.TheVariants.{Out}
use Rattle.dg_model.specs.declared.shapes.Shape.{Shape}
use Rattle.dg_pair.specs.declared.boundaries.Boundary.{Boundary}
use Rattle.dg_pair.specs.Boundaries.{MembersStand, members_of}
use Rattle.dg_pair.specs.Calls.{IsPair}

abbrev pub member_at : Option Boundary → ℕ → MemberState
member_at None q = Out
member_at (Some boundary) q = members_of boundary q

-- what member q does
abbrev pub members_in : List Boundary → ℕ → MemberState
members_in row q = member_at (slice_get row (q / 2)) q

-- boundary s of the row is number s, and has this many slots of l bytes
abbrev pub RowStands : ℕ → ℕ → List Boundary → Type 0
RowStands l slots row = (s : ℕ) (boundary : Boundary) → slice_get row s ≡ Some boundary → IsPair s l slots boundary

-- a member that isn't out, and tells its bytes, has room for its label, its slots, and a saved state of the shorter format
abbrev pub AreLong : Shape → (ℕ → MemberState) → (ℕ → Option (List ℕ)) → Type 0
AreLong shape members bytes = (q : ℕ) → members q ≢ Out → IfSome (bytes q) (λ all. member_length 1 shape ≤ length all)

-- these are the boundaries of an array of this shape, in their order, and each member that isn't out stands
pub record IsRow {R : Type 0} (rack : Ghosts R) (shape : Shape) (row : List Boundary) (now : R) : Type 0 where
  pub count : length row ≡ shape.b
  pub stands : RowStands shape.l (shape.k + 1) row
  pub long : AreLong shape (members_in row) (rack.bytes now)
  pub stand : MembersStand (members_in row) (rack.stands now)
