-- The fragments that belong to an inode, found from it downwards, and how a list gains them.
use Rattle.std.specs.Prelude.{◌≡◌, ◌⊎◌, ℕ, List}
use Rattle.std.specs.List.{Contains}
use Rattle.ufs_model.specs.Claims.{level_of}
use Rattle.ufs_model.specs.Owners.{IsOnlyClaim, IsOwner}
use Rattle.ufs_model.specs.declared.claims.ClaimSource.{ClaimSource}
use Rattle.ufs_model.specs.declared.claims.ClaimSource.TheVariants.{Slot, Pointer}
use Rattle.dg_claims.specs.Kept.{KeptClaims, table_of}
use Rattle.dg_claims.specs.Tables.{TableClaims}

-- A list has all that it had, and each number of a kind, and no others.
pub record Gains (old new : List ℕ) (IsGained : ℕ → Type 0) : Type 0 where
  pub kept : (f : ℕ) → Contains old f → Contains new f
  pub gained : (f : ℕ) → IsGained f → Contains new f
  pub only : (f : ℕ) → Contains new f → Contains old f ⊎ IsGained f

-- a source alone claims the fragment
abbrev pub IsSoleSource : KeptClaims → ClaimSource → ℕ → Type 0
IsSoleSource claims source fragment = IsOnlyClaim (TableClaims (table_of claims)) fragment source

-- a slot of an inode alone claims the fragment, at this level
abbrev pub IsOfSlot : KeptClaims → ℕ → ℕ → ℕ → Type 0
IsOfSlot claims inode level fragment = (slot : ℕ) × (level_of (Slot inode slot) ≡ level) × IsSoleSource claims (Slot inode slot) fragment

-- a pointer of a fragment at a level alone claims the fragment
abbrev pub IsOfPointer : KeptClaims → ℕ → ℕ → ℕ → Type 0
IsOfPointer claims upper level fragment = (at : ℕ) × IsSoleSource claims (Pointer upper level at) fragment

-- the fragment belongs to an inode, by a claim of this level
abbrev pub IsOwnedAt : KeptClaims → ℕ → ℕ → ℕ → Type 0
IsOwnedAt claims inode level fragment = IsOwner (TableClaims (table_of claims)) fragment inode level
