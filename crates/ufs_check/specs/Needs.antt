-- The blocks that are needed to tell all that is wrong with a volume: where one of them was gone, there is no answer.
use Rattle.std.specs.Prelude.{◌≡◌, ℕ, ◌^◌, ◌<◌, ◌≤◌, List, Option, Some, None, Result, Ok, Err, Contains}
use Rattle.ufs_model.specs.Blocks.{Volume}
use Rattle.ufs_model.specs.GroupMaps.{group_bytes}
use Rattle.ufs_model.specs.Inodes.{block_count}
use Rattle.ufs_model.specs.Malformations.{IsDirectory}
use Rattle.ufs_model.specs.Metadata.{IsMetadataBy}
use Rattle.ufs_model.specs.Paths.{block_of}
use Rattle.ufs_model.specs.Superblocks.{geometry_of, superblock_of}
use Rattle.ufs_model.specs.declared.geometries.Geometry.{Geometry}
use Rattle.ufs_model.specs.declared.inodes.Inode.{Inode}
use Rattle.ufs_model.specs.declared.reads.PathRefusal.{PathRefusal}

-- a block of the group block of one of the first groups
abbrev pub IsGroupBlock : Geometry → ℕ → Volume → ℕ → Type 0
IsGroupBlock g bound v block = (c : ℕ) × (c < bound) × Contains ((group_bytes g c v).needs) block

-- bytes are read of a file block: it is no hole, and no pointer on the way to it is wild
abbrev pub HasBytes : Result (Option (List ℕ)) PathRefusal → Type 0
HasBytes (Ok None) = ⊥
HasBytes (Ok (Some bytes)) = Unit {0}
HasBytes (Err refusal) = ⊥

-- A block that is consulted for one of the file blocks of an inode, from one on and before another, of which bytes are read. The
-- indirect blocks that lead to the others are of the metadata.
pub record IsBytesBlock (g : Geometry) (inode : Inode) (first last : ℕ) (v : Volume) (block : ℕ) : Type 0 where
  pub number : ℕ
  pub low : first ≤ number
  pub high : number < last
  pub bytes : HasBytes ((block_of g inode number v).value)
  pub needs : Contains ((block_of g inode number v).needs) block

-- the same of all file blocks of a file of fewer than 2^32 bytes
pub record IsOfSmall (g : Geometry) (v : Volume) (block : ℕ) (inode : Inode) : Type 0 where
  pub small : inode.size < 2 ^ 32
  pub read : IsBytesBlock g inode 0 (block_count g inode) v block

-- inode i is a directory of fewer than 2^32 bytes, and this is a block of it
abbrev pub IsBlockIn : Geometry → ℕ → Volume → ℕ → Type 0
IsBlockIn g i v block = IsDirectory g v i (IsOfSmall g v block)

-- a block of some directory
abbrev pub IsDirectoryBlock : Geometry → Volume → ℕ → Type 0
IsDirectoryBlock g v block = (i : ℕ) × IsBlockIn g i v block

-- A block that is needed of a volume v with geometry g: a metadata block, or one of a directory.
pub data IsNeededBy (g : Geometry) (v : Volume) : ℕ → Type 0 where
  of_metadata : {block : ℕ} → IsMetadataBy g v block → IsNeededBy g v block
  of_directory : {block : ℕ} → IsDirectoryBlock g v block → IsNeededBy g v block

-- A block that is needed of a volume of n blocks of l bytes: of the superblock, or one by its geometry, if it has one.
pub data IsNeededOn (l n : ℕ) (v : Volume) : ℕ → Type 0 where
  of_superblock : {block : ℕ} → Contains ((superblock_of l n v).needs) block → IsNeededOn l n v block
  by_geometry : {block : ℕ} (g : Geometry) → (geometry_of l n v).value ≡ Ok g → IsNeededBy g v block → IsNeededOn l n v block
