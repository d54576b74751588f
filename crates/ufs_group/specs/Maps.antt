-- Where the maps of a group block may be read.
use Rattle.std.specs.Prelude.{◌≡◌, ℕ, ◌+◌, ◌-◌, ◌/◌, ◌<◌, ◌≤◌, List, length}
use Rattle.std.specs.Int.{div_ceil}
use Rattle.ufs_model.specs.Geometries.{cgbase, end_of}
use Rattle.ufs_model.specs.declared.geometries.Geometry.{Geometry}
use Rattle.ufs_model.specs.declared.group_maps.Group.{Group}

-- bit i of the map that begins at a byte is among the bytes
abbrev pub IsInMap : List ℕ → ℕ → ℕ → Type 0
IsInMap bytes start i = start + i / 8 < length bytes

-- The maps of group c are among the bytes: that of its inodes, and that of its fragments. So where
-- this holds, IsInMap holds of each inode and of each fragment of the group.
pub record IsGroupOf (g : Geometry) (c : ℕ) (bytes : List ℕ) (group : Group) : Type 0 where
  pub number : group.c ≡ c
  pub count : group.count ≡ end_of g c - cgbase g c
  pub inodes : group.iusedoff + div_ceil g.ipg 8 ≤ length bytes
  pub fragments : group.freeoff + div_ceil group.count 8 ≤ length bytes
