-- What the passes say of a view, in one word for a clause. The record of a view's members is the first argument, and then the view before and after.
use Rattle.std.specs.Prelude.{ℕ}
use Rattle.ufs_model.specs.Blocks.{Volume}
use Rattle.ufs_model.specs.Metadata.{IsMetadata, IsStructure}
use Rattle.ufs_model.specs.declared.geometries.Geometry.{Geometry}
use Rattle.dg_io.specs.declared.views.View.{Ghosts}
use Rattle.ufs_pointer.specs.Fetches.{FetchesOnly, LosesOne}
use Rattle.dg_claims.specs.Tables.{ClaimTable}
use Rattle.ufs_check.specs.Fragments.{IsClaimedBy}
use Rattle.ufs_check.specs.Needs.{IsNeededOn}
use Rattle.ufs_check.specs.Verdicts.{IsOnView, IsTabled}

-- a volume of the view, of which the claims are those of a table
abbrev pub IsClaimed : {S : Type 0} → Ghosts S → S → Geometry → ClaimTable → Volume → Type 0
IsClaimed view old g table v = IsClaimedBy (view.stands_for old) g table v

-- such a volume with this geometry
abbrev pub IsOfGeometry : {S : Type 0} → Ghosts S → S → Geometry → ClaimTable → Volume → Type 0
IsOfGeometry view old g table v = IsOnView (view.stands_for old) (view.size old) (view.count old) g table v

-- a volume of the view, of which a table has the geometry and the claims
abbrev pub IsOfTable : {S : Type 0} → Ghosts S → S → ClaimTable → Volume → Type 0
IsOfTable view old table v = IsTabled (view.stands_for old) (view.size old) (view.count old) table v

-- a block with a volume's structure, of as many blocks as the view has
abbrev pub IsStructureOf : {S : Type 0} → Ghosts S → S → Volume → ℕ → Type 0
IsStructureOf view old v b = IsStructure (view.size old) (view.count old) v b

-- a metadata block of such a volume
abbrev pub IsMetadataOf : {S : Type 0} → Ghosts S → S → Volume → ℕ → Type 0
IsMetadataOf view old v b = IsMetadata (view.size old) (view.count old) v b

-- a block that is needed to tell all that is wrong with such a volume
abbrev pub IsNeededOf : {S : Type 0} → Ghosts S → S → Volume → ℕ → Type 0
IsNeededOf view old v b = IsNeededOn (view.size old) (view.count old) v b

-- on some volumes, only blocks of a kind were fetched
abbrev pub FetchesOn : {S : Type 0} → Ghosts S → S → S → (Volume → Type 0) → (Volume → ℕ → Type 0) → Type 0
FetchesOn view old new some kind = FetchesOnly view.fetched some (view.tells new) kind old new

-- on some volumes, a block of a kind is gone
abbrev pub LosesOn : {S : Type 0} → Ghosts S → S → S → (Volume → Type 0) → (Volume → ℕ → Type 0) → Type 0
LosesOn view old new some kind = LosesOne some (view.tells new) (view.count old) kind (view.is_gone new)
