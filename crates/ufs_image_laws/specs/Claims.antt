-- The fragments of the blocks of files that were built, and what claims them.
use Rattle.std.specs.Prelude.{◌≡◌, ◌≢◌, ◌+◌, ◌≤◌, ◌<◌, ◌==◌, ℕ, List, Some, if◌then◌else◌, length, slice_get}
use Rattle.ufs_model.specs.Claims.{level_of}
use Rattle.ufs_model.specs.declared.claims.ClaimSource.{ClaimSource}
use Rattle.ufs_model.specs.declared.geometries.Geometry.{Geometry}
use Rattle.ufs_build.specs.Nodes.{Node}
use Rattle.ufs_build.specs.Placements.{Addresses, address_at, fragments_of}

-- so many fragments has the block at a level, of a file of so many bytes: level 0 is that of file blocks
abbrev pub count_at : Geometry → ℕ → ℕ → ℕ → ℕ
count_at g size level index = if level == 0 then fragments_of g size index else g.frag

-- a fragment of the block at a level
pub record IsInBlock (g : Geometry) (size : ℕ) (addresses : Addresses) (level index f : ℕ) : Type 0 where
  pub some : address_at addresses level index ≢ 0
  pub low : address_at addresses level index ≤ f
  pub high : f < address_at addresses level index + count_at g size level index

-- a fragment of a block of one of the files, whose level is that of a source
pub record IsOfFile (g : Geometry) (nodes : List Node) (files : List Addresses) (f : ℕ) (source : ClaimSource) : Type 0 where
  pub k : ℕ
  pub node : Node
  pub addresses : Addresses
  pub index : ℕ
  pub node_is : slice_get nodes k ≡ Some node
  pub addresses_are : slice_get files k ≡ Some addresses
  pub in_block : IsInBlock g (length node.bytes) addresses (level_of source) index f
