-- A store that goes on without its lost boundaries: those that are left have new places.
use Rattle.std.specs.Prelude.{◌<◌, ◌≤◌, Some, not, slice_get, slice_index, ◌≡◌, ◌+◌, ◌*◌, ◌/◌, ◌%◌, ℕ, false, List, length, map, if◌then◌else◌}
use Rattle.std.specs.List.{filter, range_with_len}
use Rattle.dg_io.specs.Reduced.{LeavesLeft}
use Rattle.dg_io.specs.declared.outside.Rack.{Ghosts}
use Rattle.dg_model.specs.Blocks.{block_in, zeros}
use Rattle.dg_model.specs.Lives.{left_of}
use Rattle.dg_model.specs.Members.{is_lost}
use Rattle.dg_model.specs.Regroups.{members_left, table_left}
use Rattle.dg_model.specs.Sites.{is_gone}
use Rattle.dg_model.specs.States.{has_lost}
use Rattle.dg_model.specs.Tables.{Table}
use Rattle.dg_model.specs.declared.members.MemberState.{MemberState}
use Rattle.dg_pair.specs.Boundaries.{members_of as boundary_members, number_of, unfilled}
use Rattle.dg_pair.specs.Calls.{IsPair}
use Rattle.dg_pair.specs.declared.boundaries.Boundary.{Boundary}
use Rattle.dg_store.specs.Rows.{members_in}
use Rattle.dg_store.specs.Stores.{IsSound, StandsFor, lost_bits, members_of, rack_of, shape_of, table_of}
use Rattle.dg_store.specs.declared.store.Store.{Store}

-- the old places of the boundaries that aren't lost
abbrev pub left_in : {R : Type 0} → Store R → List ℕ
left_in store = left_of (shape_of store) (members_of store)

-- the sites that are left
abbrev pub reduced : {R : Type 0} → Store R → Table
reduced store = table_left (left_in store) (table_of store)

-- a block that stood on lost boundaries alone is zeros, and each other one has its value
abbrev pub blocks_left : Table → (ℕ → MemberState) → List (List ℕ) → List (List ℕ)
blocks_left table members blocks =
    map (λ b. if is_gone table members b then zeros table.shape.l else block_in blocks b) (range_with_len 0 (length blocks))

-- boundary `number`, with so many slots of l bytes: the members of another one that are good, under a new number
pub record IsMoved (from : Boundary) (number l slots : ℕ) (to : Boundary) : Type 0 where
  pub pair : IsPair number l slots to
  pub members : (q : ℕ) → q / 2 ≡ number → boundary_members to q ≡ unfilled (boundary_members from (2 * number_of from + q % 2))

-- the places of the boundaries below a number that aren't lost
abbrev pub live_upto : List Boundary → ℕ → List ℕ
live_upto row n = filter (λ x. not (is_lost (members_in row) x)) (range_with_len 0 n)

-- boundary i is made of the good members of the one that had a place
pub record IsGoodOf (l slots : ℕ) (was : List Boundary) (place i : ℕ) (x : Boundary) : Type 0 where
  pub pair : IsPair i l slots x
  pub members : (q : ℕ) → q / 2 ≡ i → boundary_members x q ≡ unfilled (members_in was (2 * place + q % 2))

-- n boundaries had their turn, and those of them that aren't lost are the first ones now
pub record IsKept (l slots : ℕ) (was now : List Boundary) (n kept : ℕ) : Type 0 where
  pub left : kept ≡ length (live_upto was n)
  pub behind : kept ≤ n
  pub count : length now ≡ length was
  pub done : (i : ℕ) (x : Boundary) → i < kept → slice_get now i ≡ Some x → IsGoodOf l slots was (slice_index (live_upto was n) i) i x
  pub rest : (i : ℕ) → kept ≤ i → slice_get now i ≡ slice_get was i

-- What is left of a store without its lost boundaries. `boundaries` is how many boundaries the rack has, which may be more than the array's,
-- and `dropped` what may have become of what stands beneath the rack.
pub record IsReduced {R : Type 0} (rack : Ghosts R) (boundaries : R → ℕ) (dropped : R → ℕ → R → Type 0) (old new : Store R) : Type 0 where
  pub sound : IsSound rack new
  pub table : table_of new ≡ reduced old
  pub members : (q : ℕ) → members_of new q ≡ members_left (left_in old) (members_of old) q
  -- no boundary is lost then
  pub none : has_lost (shape_of new) (members_of new) ≡ false
  -- it is the same rack under the new places, and no call was made of it
  pub leaves : LeavesLeft rack (left_in old) (rack_of old) (rack_of new)
  pub rest : boundaries (rack_of new) + (shape_of old).b ≡ boundaries (rack_of old) + (shape_of new).b
  pub below : dropped (rack_of old) (lost_bits (members_of old) (shape_of old).b) (rack_of new)
  -- the blocks that it stands for
  pub blocks : (V : List (List ℕ)) → StandsFor rack old V → StandsFor rack new (blocks_left (table_of old) (members_of old) V)
