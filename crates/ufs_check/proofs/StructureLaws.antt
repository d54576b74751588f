-- The blocks that are read to look at the directories have the volume's structure.
use Rattle.std.proofs.Common.{◌≡◌, ℕ, ◌^◌, ◌<◌, Option, Some, None, Ok, refl}
use Rattle.std.specs.Prelude.{Contains, MatchOption}
use Rattle.ufs_model.specs.Blocks.{Volume}
use Rattle.ufs_model.specs.Inodes.{block_count, kind_of}
use Rattle.ufs_model.specs.Malformations.{inode_at}
use Rattle.ufs_model.specs.Metadata.{IsStructure}
use Rattle.ufs_model.specs.Metadata.IsMetadata.{by_geometry}
use Rattle.ufs_model.specs.Metadata.IsStructure.{of_metadata as of_structure_metadata}
use Rattle.ufs_model.specs.Paths.{block_of}
use Rattle.ufs_model.specs.Superblocks.{geometry_of}
use Rattle.ufs_model.specs.declared.geometries.Geometry.{Geometry}
use Rattle.ufs_model.specs.declared.inodes.Inode.{Inode}
use Rattle.ufs_model.specs.declared.inodes.Kind.TheVariants.{Directory}
use Rattle.ufs_check.specs.Directories.{IsDirectoryRead, IsFileRead, IsSmallRead}
use Rattle.ufs_check.specs.Directories.IsDirectoryRead.{by_directory, by_metadata}
use Rattle.ufs_check.specs.Directories.IsFileRead.{of_file, of_metadata}

-- what is needed to read a directory is of the structure
abbrev NeedStructure : ℕ → ℕ → Geometry → Volume → Type 0
NeedStructure l m g v = (i k b : ℕ) (inode : Inode) → inode_at g v i ≡ Some inode → kind_of inode.mode ≡ Directory → inode.size < 2 ^ 32 → k < block_count g inode
    → Contains ((block_of g inode k v).needs) b → IsStructure l m v b

file_structure : (l m : ℕ) (g : Geometry) (v : Volume) (i b : ℕ) (inode : Inode) → (geometry_of l m v).value ≡ Ok g → NeedStructure l m g v → inode_at g v i ≡ Some inode
    → kind_of inode.mode ≡ Directory → inode.size < 2 ^ 32 → IsFileRead g inode v b → IsStructure l m v b
file_structure l m g v i b inode has need there directory small (of_metadata is) = of_structure_metadata (by_geometry g has is)
file_structure l m g v i b inode has need there directory small (of_file k low needs) = need i k b inode there directory small low needs

directory_structure : (l m : ℕ) (g : Geometry) (v : Volume) (i b : ℕ) (found : Option Inode) → (geometry_of l m v).value ≡ Ok g → NeedStructure l m g v → inode_at g v i ≡ found
    → MatchOption found ⊥ (λ inode. (kind_of inode.mode ≡ Directory) × IsSmallRead g v b inode) → IsStructure l m v b
directory_structure l m g v i b None has need is h = absurd h
directory_structure l m g v i b (Some inode) has need is h = file_structure l m g v i b inode has need is h.0 h.1.small h.1.read

pub read_is_structure : (l m : ℕ) (g : Geometry) (v : Volume) (b : ℕ) → (geometry_of l m v).value ≡ Ok g → NeedStructure l m g v → IsDirectoryRead g v b → IsStructure l m v b
read_is_structure l m g v b has need (by_metadata is) = of_structure_metadata (by_geometry g has is)
read_is_structure l m g v b has need (by_directory i h) = directory_structure l m g v i b (inode_at g v i) has need refl h
