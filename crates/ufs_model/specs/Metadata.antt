-- The blocks that have a volume's structure: what claims and malformations are read from. The structures are those of `fs.h`,
-- `dinode.h` and `dir.h`.
use Rattle.std.specs.Prelude.{◌≡◌, ◌*◌, ◌<◌, ℕ, Ok, Contains}
use Rattle.ufs_model.specs.Blocks.{Volume}
use Rattle.ufs_model.specs.Claims.{IsClaim, level_of, source_fragments}
use Rattle.ufs_model.specs.GroupMaps.{group_bytes}
use Rattle.ufs_model.specs.Inodes.{inode_block}
use Rattle.ufs_model.specs.Malformations.{FirstBlock, IsDirectory}
use Rattle.ufs_model.specs.Superblocks.{geometry_of, superblock_of}
use Rattle.ufs_model.specs.declared.claims.ClaimSource.{ClaimSource}
use Rattle.ufs_model.specs.declared.geometries.Geometry.{Geometry}

-- A block of a volume v with geometry g: of a group block, of the inodes, or of an indirect block.
pub data IsMetadataBy (g : Geometry) (v : Volume) : ℕ → Type 0 where
  of_group : {b : ℕ} (c : ℕ) → c < g.ncg → Contains (group_bytes g c v).needs b → IsMetadataBy g v b
  of_inode : {b : ℕ} (i : ℕ) → i < g.ncg * g.ipg → b ≡ inode_block g i → IsMetadataBy g v b
  of_indirect : {b : ℕ} (source : ClaimSource) → IsClaim (source_fragments g v) b source → 0 < level_of source → IsMetadataBy g v b

-- A metadata block of a volume of n blocks of l bytes: of the superblock, or one by its geometry, if it has one.
pub data IsMetadata (l n : ℕ) (v : Volume) : ℕ → Type 0 where
  of_superblock : {b : ℕ} → Contains (superblock_of l n v).needs b → IsMetadata l n v b
  by_geometry : {b : ℕ} (g : Geometry) → (geometry_of l n v).value ≡ Ok g → IsMetadataBy g v b → IsMetadata l n v b

-- A metadata block, or one that a directory claims.
pub data IsStructure (l n : ℕ) (v : Volume) : ℕ → Type 0 where
  of_metadata : {b : ℕ} → IsMetadata l n v b → IsStructure l n v b
  of_directory : {b : ℕ} (g : Geometry) (i first : ℕ) (source : ClaimSource) → (geometry_of l n v).value ≡ Ok g
      → IsDirectory g v i (λ _. Unit {0}) → IsClaim (source_fragments g v) b source → FirstBlock g v source i first → IsStructure l n v b
