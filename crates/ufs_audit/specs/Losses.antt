-- Which blocks have a volume's structure, by its geometry and its claims, and whether one is gone. The record of a view's members is the first argument.
use Rattle.std.specs.Prelude.{◌≡◌, ◌⊎◌, ◌+◌, ◌*◌, ◌<◌, ◌≤◌, ℕ, Bool, true, false, List}
use Rattle.dg_claims.specs.Tables.{ClaimTable, TableClaims}
use Rattle.dg_io.specs.declared.views.View.{Ghosts}
use Rattle.dg_model.specs.Marks.{is_marked}
use Rattle.ufs_model.specs.Blocks.{Volume}
use Rattle.ufs_model.specs.Claims.{level_of}
use Rattle.ufs_model.specs.Inodes.{inode_block}
use Rattle.ufs_model.specs.Geometries.{cgstart}
use Rattle.ufs_model.specs.declared.claims.ClaimSource.{ClaimSource}
use Rattle.ufs_model.specs.declared.geometries.Geometry.{Geometry}

-- ---- kinds of blocks

-- from one to before another
pub record IsBetween (from end b : ℕ) : Type 0 where
  pub low : from ≤ b
  pub high : b < end

-- of a group block
pub record IsGroupBlock (g : Geometry) (b : ℕ) : Type 0 where
  pub c : ℕ
  pub group : c < g.ncg
  pub is : IsBetween (cgstart g c + g.cblkno) (cgstart g c + g.cblkno + g.frag) b

-- with an inode
pub record IsInodeBlock (g : Geometry) (b : ℕ) : Type 0 where
  pub i : ℕ
  pub inode : i < g.ncg * g.ipg
  pub is : b ≡ inode_block g i

-- of an indirect block
pub record IsIndirect (table : ClaimTable) (b : ℕ) : Type 0 where
  pub source : ClaimSource
  pub claim : TableClaims table b source
  pub above : 0 < level_of source

-- of an indirect block, or marked
abbrev pub IsClaimPart : ClaimTable → List Bool → ℕ → Type 0
IsClaimPart table marks b = IsIndirect table b ⊎ (is_marked marks b ≡ true)

-- one of these
abbrev pub IsPart : Geometry → ClaimTable → List Bool → ℕ → Type 0
IsPart g table marks b = IsGroupBlock g b ⊎ (IsInodeBlock g b ⊎ IsClaimPart table marks b)

-- ---- blocks that are gone

-- a block of a kind is gone
pub record LosesPart {S : Type 0} (view : Ghosts S) (s : S) (part : ℕ → Type 0) : Type 0 where
  pub block : ℕ
  pub within : block < view.count s
  pub of_part : part block
  pub lost : view.is_gone s block ≡ true

-- no block of a kind is gone
abbrev pub HasPart : {S : Type 0} → Ghosts S → S → (ℕ → Type 0) → Type 0
HasPart view s part = (b : ℕ) → b < view.count s → part b → view.is_gone s b ≡ false

-- whether one is
abbrev pub TellsGone : {S : Type 0} → Ghosts S → S → (ℕ → Type 0) → Bool → Type 0
TellsGone view s part true = LosesPart view s part
TellsGone view s part false = HasPart view s part

-- on some volumes of a view that tells its blocks in the end, no block of a kind was gone before
abbrev pub HadOn : {S : Type 0} → Ghosts S → S → S → (Volume → Type 0) → (Volume → ℕ → Type 0) → Type 0
HadOn view old new some kind = view.tells new → (v : Volume) → some v → HasPart view old (kind v)
