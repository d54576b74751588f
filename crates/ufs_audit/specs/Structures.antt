-- The structure of a volume beside its superblock, and its directories.
use Rattle.std.specs.Prelude.{ℕ, Bool, true, false, Option, Some, None, Contains}
use Rattle.ufs_model.specs.Blocks.{Volume}
use Rattle.ufs_model.specs.Inodes.{kind_of}
use Rattle.ufs_model.specs.Malformations.{IsDirectory}
use Rattle.ufs_model.specs.Metadata.{IsStructure}
use Rattle.ufs_model.specs.Superblocks.{superblock_of}
use Rattle.ufs_model.specs.declared.geometries.Geometry.{Geometry}
use Rattle.ufs_model.specs.declared.inodes.Inode.{Inode}
use Rattle.ufs_model.specs.declared.inodes.Kind.{Kind}
use Rattle.ufs_model.specs.declared.inodes.Kind.TheVariants.{Directory}

-- inode i is a directory's
abbrev pub IsDirectoryOf : Geometry → Volume → ℕ → Type 0
IsDirectoryOf g v i = IsDirectory g v i (λ _. Unit {0})

-- whether a kind is that of directories
abbrev pub is_directory_kind : Kind → Bool
is_directory_kind Directory = true
is_directory_kind other = false

-- whether an inode is there, and a directory's
abbrev pub is_directory_in : Option Inode → Bool
is_directory_in None = false
is_directory_in (Some inode) = is_directory_kind (kind_of inode.mode)

-- a block of the structure that isn't one of the superblock
pub record IsBehindSuper (l n : ℕ) (v : Volume) (b : ℕ) : Type 0 where
  pub of_structure : IsStructure l n v b
  pub behind : Contains (superblock_of l n v).needs b → ⊥
