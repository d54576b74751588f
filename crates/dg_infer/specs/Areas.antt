-- Blocks that stand beside one that is at hand: of the superblock, of a group block, and with inodes.
use Rattle.std.specs.Prelude.{◌≢◌, ◌+◌, ◌<◌, ◌≤◌, ℕ}
use Rattle.dg_model.specs.Rereads.{IsAreaOf}
use Rattle.ufs_model.specs.Blocks.{Volume}
use Rattle.ufs_model.specs.Geometries.{cgstart}
use Rattle.ufs_model.specs.declared.geometries.Geometry.{Geometry}

-- one of k blocks from a on
abbrev pub IsFrom : ℕ → ℕ → ℕ → Type 0
IsFrom a k b = (a ≤ b) × (b < a + k)

-- one of these other than the block
pub record IsRest (a k block b : ℕ) : Type 0 where
  pub from : a ≤ b
  pub to : b < a + k
  pub other : b ≢ block

-- a block is part of the group block of group c
abbrev pub IsInGroupBlock : Geometry → ℕ → ℕ → Type 0
IsInGroupBlock g c b = IsFrom (cgstart g c + g.cblkno) g.frag b

-- another block of the same group block
pub record IsGroupRest (g : Geometry) (block b : ℕ) : Type 0 where
  pub group : ℕ
  pub within : group < g.ncg
  pub one : IsInGroupBlock g group block
  pub rest : IsRest (cgstart g group + g.cblkno) g.frag block b

-- another block with inodes, or of a group block, up to some block
pub record IsAreaRest (g : Geometry) (end block b : ℕ) : Type 0 where
  pub before : b < end
  pub other : b ≢ block
  pub area : (v : Volume) → IsAreaOf g v b
