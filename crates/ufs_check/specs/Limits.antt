-- Which pointers of a fragment that an inode owns reach no block of its file.
use Rattle.std.specs.Prelude.{◌≡◌, ◌↔◌, ◌+◌, ◌*◌, ◌^◌, ◌≤◌, ℕ, Option, Some, None}
use Rattle.ufs_model.specs.Blocks.{Volume}
use Rattle.ufs_model.specs.Inodes.{block_count}
use Rattle.ufs_model.specs.Malformations.{Claims, FirstBlock, inode_at}
use Rattle.ufs_model.specs.Owners.{IsOwner}
use Rattle.ufs_model.specs.declared.claims.ClaimSource.TheVariants.{Pointer}
use Rattle.ufs_model.specs.declared.geometries.Geometry.{Geometry}
use Rattle.ufs_model.specs.declared.inodes.Inode.{Inode}
use Rattle.ufs_check.specs.declared.limits.Limit.{Limit}

-- a pointer of a fragment reaches a block past the end of its file
pub record IsPastAt (g : Geometry) (v : Volume) (f at : ℕ) : Type 0 where
  pub level : ℕ
  pub i : ℕ
  pub inode : Inode
  pub block : ℕ
  pub owned : IsOwner (Claims g v) f i level
  pub reaches : FirstBlock g v (Pointer f level at) i block
  pub owner : inode_at g v i ≡ Some inode
  pub past : block_count g inode ≤ block

-- the same by a limit
abbrev pub IsPastLimit : Option Limit → ℕ → Type 0
IsPastLimit None at = ⊥
IsPastLimit (Some limit) at = limit.blocks ≤ limit.first + at * limit.width

-- the limit of the pointers of a fragment
pub record IsLimit (g : Geometry) (v : Volume) (f : ℕ) (limit : Option Limit) : Type 0 where
  pub past : (at : ℕ) → IsPastAt g v f at ↔ IsPastLimit limit at

-- a limit whose blocks fit a number of 64 bits
pub record IsInLimits (limit : Limit) : Type 0 where
  pub first : limit.first ≤ 2 ^ 48
  pub width : limit.width ≤ 2 ^ 28
