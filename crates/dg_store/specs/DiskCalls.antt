-- What a call on a disk leaves of a store over groups of disks: its sites and its members are as they were.
use Rattle.std.specs.Prelude.{◌≡◌, ℕ, Option, None}
use Rattle.dg_io.specs.DiskAnswers.{LeavesMembers, OneDisk}
use Rattle.dg_io.specs.declared.outside.Rack.{Ghosts}
use Rattle.dg_store.specs.Stores.{IsSound, IsWhole, KeepsBlocks, members_of, rack_of, table_of}
use Rattle.dg_store.specs.declared.store.Store.{Store}

-- What a call on disk j of group s leaves. `width` and `groups` are how many disks a group of the rack has, or none, and how many groups it has.
pub record DiskLeaves {R : Type 0} (rack : Ghosts R) (width : R → Option ℕ) (groups : R → ℕ) (s j : ℕ) (old new : Store R) : Type 0 where
  pub table : table_of new ≡ table_of old
  pub members : members_of new ≡ members_of old
  pub disks : OneDisk s j (rack.disks (rack_of old)) (rack.disks (rack_of new))
  pub leaves : LeavesMembers rack (rack_of old) (rack_of new)
  pub width_is : width (rack_of new) ≡ width (rack_of old)
  pub groups_is : groups (rack_of new) ≡ groups (rack_of old)
  -- nothing is done to a plain rack
  pub idle : width (rack_of old) ≡ None → new ≡ old
  pub whole : IsWhole rack old → IsWhole rack new
  pub sound : IsSound rack old → IsSound rack new
  pub blocks : KeepsBlocks rack old new
