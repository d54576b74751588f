-- What the racks in memory hold.
use Rattle.std.specs.Prelude.{◌⊎◌, ◌<◌, ◌≤◌, ◌≡◌, ℕ, Bool, true, false, List, [], length, Option, Some, None, if◌then◌else◌, IsSome, slice_get, slice_index}
use Rattle.std.specs.List.{Contains}
use Rattle.dg_model.specs.States.{Counts}
use Rattle.dg_io.specs.Disks.{DiskStates, no_disks}
use Rattle.dg_io.specs.Kept.{Kept}
use Rattle.dg_io.specs.Made.{AfterCalls}
use Rattle.dg_io.specs.RackCalls.{RackCall}
use Rattle.dg_io.specs.declared.members.MemMember.{MemMember}
use Rattle.dg_io.specs.declared.racks.MemRack.{MemRack}
use Rattle.dg_io.specs.declared.racks.SureRack.{SureRack}

abbrev pub bytes_of : Option MemMember → List ℕ
bytes_of None = []
bytes_of (Some member) = member.bytes.items

-- how many bytes it has room for
abbrev pub room_of : Option MemMember → ℕ
room_of None = 0
room_of (Some member) = member.room

abbrev pub is_there : Option MemMember → Bool
is_there None = false
is_there (Some member) = member.there

-- the bytes of a member. One that isn't there has none
abbrev pub member_in : MemRack → ℕ → Option (List ℕ)
member_in rack q = Some (bytes_of (slice_get rack.members.items q))

-- whether there is such a member
abbrev pub there_in : MemRack → ℕ → Bool
there_in rack q = is_there (slice_get rack.members.items q)

-- how many members it was made with, the removed ones among them
abbrev pub members_in : MemRack → ℕ
members_in rack = length rack.members.items

-- how many bytes a member has room for
abbrev pub room_in : MemRack → ℕ → ℕ
room_in rack q = room_of (slice_get rack.members.items q)

abbrev pub counts_in : MemRack → Counts
counts_in rack = record { faults = λ q. slice_index rack.faults q; calls = rack.calls; writes = rack.writes }

-- each of its members stands, it is steady, and it isn't lent
abbrev pub stands_in : MemRack → ℕ → Bool
stands_in rack q = true

abbrev pub steady_in : MemRack → Type 0
steady_in rack = Unit {0}

abbrev pub name_in : MemRack → ℕ
name_in rack = 0

-- it tells a member where it tells its bytes, and it keeps no checkpoint
abbrev pub told_in : MemRack → ℕ → Type 0
told_in rack q = IsSome (member_in rack q)

abbrev pub keeps_in : MemRack → Option Kept → Type 0
keeps_in rack kept = ⊥

-- it has no disks
abbrev pub disks_in : MemRack → DiskStates
disks_in rack = no_disks

-- what just these calls leave of it
abbrev pub made_in : MemRack → List RackCall → MemRack → Type 0
made_in old calls new = AfterCalls name_in member_in counts_in stands_in steady_in told_in keeps_in disks_in calls old new

-- the numbers of the calls that fail, from 0
abbrev pub rack_fails : MemRack → List ℕ
rack_fails rack = rack.fails.items

-- the next call is one of those that fail
abbrev pub IsListed : MemRack → Type 0
IsListed rack = Contains (rack_fails rack) (counts_in rack).calls

-- the member isn't there
abbrev pub IsAbsent : MemRack → ℕ → Type 0
IsAbsent rack q = there_in rack q ≡ false

-- the member can't have so many bytes
abbrev pub IsPast : MemRack → ℕ → ℕ → Type 0
IsPast rack q size = (members_in rack ≤ q) ⊎ (room_in rack q < size)

-- what it was made with stays: how many members, their room, and which calls fail
pub record StaysMade (old new : MemRack) : Type 0 where
  pub members : members_in new ≡ members_in old
  pub room : (q : ℕ) → room_in new q ≡ room_in old q
  pub fails : rack_fails new ≡ rack_fails old

-- the bytes of a member, until there was no room
abbrev pub sure_member : SureRack → ℕ → Option (List ℕ)
sure_member rack q = if rack.told then Some (bytes_of (slice_get rack.members.items q)) else None

abbrev pub sure_counts : SureRack → Counts
sure_counts rack = record { faults = λ q. 0; calls = rack.calls; writes = rack.writes }

-- how many bytes a member has room for
abbrev pub sure_room_in : SureRack → ℕ → ℕ
sure_room_in rack q = room_of (slice_get rack.members.items q)

-- whether it still tells its bytes
abbrev pub tells_in : SureRack → Bool
tells_in rack = rack.told

-- how many members it was made with
abbrev pub sure_members_in : SureRack → ℕ
sure_members_in rack = length rack.members.items

-- whether there is such a member
abbrev pub sure_there_in : SureRack → ℕ → Bool
sure_there_in rack q = is_there (slice_get rack.members.items q)

-- each of its members stands, it is steady, and it isn't lent
abbrev pub sure_stands : SureRack → ℕ → Bool
sure_stands rack q = true

abbrev pub sure_steady : SureRack → Type 0
sure_steady rack = Unit {0}

abbrev pub sure_name : SureRack → ℕ
sure_name rack = 0

-- it tells a member where it tells its bytes, and it keeps no checkpoint
abbrev pub sure_told : SureRack → ℕ → Type 0
sure_told rack q = IsSome (sure_member rack q)

abbrev pub sure_keeps : SureRack → Option Kept → Type 0
sure_keeps rack kept = ⊥

-- it has no disks
abbrev pub sure_disks : SureRack → DiskStates
sure_disks rack = no_disks

-- what just these calls leave of it
abbrev pub sure_made : SureRack → List RackCall → SureRack → Type 0
sure_made old calls new = AfterCalls sure_name sure_member sure_counts sure_stands sure_steady sure_told sure_keeps sure_disks calls old new

-- what it was made with stays: how many members, and their room; and a member that is there is there
pub record SureStays (old new : SureRack) : Type 0 where
  pub members : sure_members_in new ≡ sure_members_in old
  pub room : (q : ℕ) → sure_room_in new q ≡ sure_room_in old q
  pub there : (q : ℕ) → sure_there_in old q ≡ true → sure_there_in new q ≡ true
