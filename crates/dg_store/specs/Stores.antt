-- What a store means. The words below are all that the crates above cite; they say nothing of how a store keeps it.
use Rattle.std.specs.Prelude.{◌/◌, ◌≤◌, ◌<◌, ◌≡◌, ◌≢◌, ◌+◌, ◌^◌, ℕ, zero, suc, List, [], length, IsSome, if◌then◌else◌, slice_set}
use Rattle.dg_io.specs.declared.outside.Rack.{Ghosts}
use Rattle.dg_model.specs.Blocks.{block_in}
use Rattle.dg_model.specs.Members.{ArePaired, is_lost}
use Rattle.dg_model.specs.States.{State}
use Rattle.dg_model.specs.States as states
use Rattle.dg_model.specs.Tables.{Table, IsTable}
use Rattle.dg_model.specs.declared.shapes.Shape.{Shape}
use Rattle.dg_model.specs.declared.members.MemberState.{MemberState}
use Rattle.dg_model.specs.declared.members.MemberState.TheVariants.{Good, Out}
use Rattle.dg_pair.specs.Boundaries.{MembersStand}
use Rattle.dg_store.specs.declared.store.Store.{Store}
use Rattle.dg_store.specs.Rows.{AreLong, members_in, RowStands}

-- the rack that it holds
abbrev pub rack_of : {R : Type 0} → Store R → R
rack_of store = store.rack

-- its numbers and the sites of each block
abbrev pub table_of : {R : Type 0} → Store R → Table
table_of store = store.map

abbrev pub shape_of : {R : Type 0} → Store R → Shape
shape_of store = store.map.shape

-- what each member does
abbrev pub members_of : {R : Type 0} → Store R → ℕ → MemberState
members_of store = members_in store.row.items

-- its parts fit one another
pub record IsBuilt {R : Type 0} (store : Store R) : Type 0 where
  pub count : length store.row.items ≡ store.map.shape.b
  pub stands : RowStands store.map.shape.l (store.map.shape.k + 1) store.row.items
  pub block : length store.block.items ≡ store.map.shape.l
  pub given_up : store.given_up.items ≡ []

-- What holds of it whatever stands: its sites are a table; a member that is refilled has a good partner; there is no member past the last
-- boundary; and each member that isn't out is long enough where it tells its bytes.
pub record IsWhole {R : Type 0} (rack : Ghosts R) (store : Store R) : Type 0 where
  pub table : IsTable (table_of store)
  pub paired : ArePaired (members_of store)
  pub others : (q : ℕ) → (shape_of store).b ≤ q / 2 → members_of store q ≡ Out
  pub long : AreLong (shape_of store) (members_of store) (rack.bytes (rack_of store))
  pub built : IsBuilt store

-- What holds of it between calls: its sites are a table; a member that is refilled has a good partner; there is no member past the
-- last boundary; and each member that isn't out stands, is long enough where it tells its bytes, and tells them where the rack tells them
-- as long as it stands.
pub record IsSound {R : Type 0} (rack : Ghosts R) (store : Store R) : Type 0 where
  pub table : IsTable (table_of store)
  pub paired : ArePaired (members_of store)
  pub others : (q : ℕ) → (shape_of store).b ≤ q / 2 → members_of store q ≡ Out
  pub long : AreLong (shape_of store) (members_of store) (rack.bytes (rack_of store))
  pub stand : MembersStand (members_of store) (rack.stands (rack_of store))
  pub telling : (q : ℕ) → rack.tells (rack_of store) q → members_of store q ≢ Out → IsSome (rack.bytes (rack_of store) q)
  pub built : IsBuilt store

-- the state that it is in, where these are its blocks, and the rest is as in another state
abbrev pub state_of : {R : Type 0} → Ghosts R → Store R → State → List (List ℕ) → State
state_of rack store rest blocks =
    record rest { table = table_of store; blocks = blocks; members = members_of store; counts = rack.counts (rack_of store) }

-- it stands for these blocks
abbrev pub StandsFor : {R : Type 0} → Ghosts R → Store R → List (List ℕ) → Type 0
StandsFor rack store blocks = states.StandsFor (table_of store) (members_of store) (rack.bytes (rack_of store)) blocks

-- it stands for what it stood for
abbrev pub KeepsBlocks : {R : Type 0} → Ghosts R → Store R → Store R → Type 0
KeepsBlocks rack old new = (V : List (List ℕ)) → StandsFor rack old V → StandsFor rack new V

-- it stands for what it stood for, but that block b has this value
abbrev pub SetsBlock : {R : Type 0} → Ghosts R → Store R → ℕ → List ℕ → Store R → Type 0
SetsBlock rack old b value new = (V : List (List ℕ)) → StandsFor rack old V → StandsFor rack new (slice_set V b value)

-- in all that it stands for, block b has this value
abbrev pub HasBlock : {R : Type 0} → Ghosts R → Store R → ℕ → List ℕ → Type 0
HasBlock rack store b value = (V : List (List ℕ)) → StandsFor rack store V → value ≡ block_in V b

-- each good member tells its bytes
abbrev pub Tells : {R : Type 0} → Ghosts R → Store R → Type 0
Tells rack store = (q : ℕ) → members_of store q ≡ Good → IsSome (rack.bytes (rack_of store) q)

-- each member of the array tells its bytes as long as it stands
abbrev pub TellsAll : {R : Type 0} → Ghosts R → Store R → Type 0
TellsAll rack store = (q : ℕ) → q / 2 < (shape_of store).b → rack.tells (rack_of store) q

-- bit s for each lost boundary s below a number
abbrev pub lost_bits : (ℕ → MemberState) → ℕ → ℕ
lost_bits members zero = 0
lost_bits members (suc s) = lost_bits members s + (if is_lost members s then 2 ^ s else 0)
