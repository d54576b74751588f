-- A write of one block, beneath an inference that stood for the volume before it.
use Rattle.std.specs.Prelude.{◌≡◌, ◌<◌, ℕ, List, [], Option, Some, None, length, slice_set}
use Rattle.dg_io.specs.declared.views.View.{Ghosts}
use Rattle.dg_model.specs.Volumes.{geometry_on}
use Rattle.ufs_model.specs.Blocks.{Volume}
use Rattle.ufs_model.specs.Metadata.{IsMetadata, IsMetadataBy}
use Rattle.ufs_model.specs.declared.geometries.Geometry.{Geometry}
use Rattle.ufs_pointer.specs.Fetches.{FetchesOnly, LosesOne}
use Rattle.dg_claims.specs.Tables.{accepted}
use Rattle.dg_infer.specs.AtHand.{IsWriteOf}
use Rattle.dg_infer.specs.Meanings.{KeptInference, StandsFor}

-- The inference stood for v. The view stood for what the write made of it, and tells its blocks in the end.
pub record IsKnownWrite {S : Type 0} (view : Ghosts S) (old new : S) (kept : KeptInference) (block : ℕ) (bytes : List ℕ) (v : Volume) : Type 0 where
  pub tells : view.tells new
  pub inside : block < length v
  pub stands : view.stands_for old (slice_set v block bytes)
  pub was : StandsFor kept v

-- the volume has this geometry, or none
abbrev pub HasGeometry : KeptInference → Option Geometry → Volume → Type 0
HasGeometry kept geometry w = geometry ≡ accepted (geometry_on kept.l kept.n w)

-- the same write, which gave the volume this geometry, or left it without one
abbrev pub IsWriteTo : {S : Type 0} → Ghosts S → S → S → KeptInference → Option Geometry → ℕ → List ℕ → Volume → Type 0
IsWriteTo view old new kept geometry block bytes v = IsKnownWrite view old new kept block bytes v × HasGeometry kept geometry (slice_set v block bytes)

-- the view stands for what a write made of a volume for which the inference stood
abbrev pub IsWritten : {S : Type 0} → Ghosts S → S → KeptInference → ℕ → List ℕ → Volume → Type 0
IsWritten view old kept block bytes w = view.stands_for old w × IsWriteOf block bytes (StandsFor kept) w

-- some metadata block of the volume after the write is gone
abbrev pub LosesWritten : {S : Type 0} → Ghosts S → S → S → KeptInference → ℕ → List ℕ → Type 0
LosesWritten view old new kept block bytes =
    LosesOne (IsWritten view old kept block bytes) (view.tells new) (view.count old) (IsMetadata kept.l kept.n) (view.is_gone new)

-- the same, where the volume has this geometry, or none
abbrev pub LosesWrittenTo : {S : Type 0} → Ghosts S → S → S → KeptInference → Option Geometry → ℕ → List ℕ → Type 0
LosesWrittenTo view old new kept geometry block bytes =
    LosesOne (λ w. IsWritten view old kept block bytes w × HasGeometry kept geometry w) (view.tells new) (view.count old) (IsMetadata kept.l kept.n)
    (view.is_gone new)

-- ---- a volume that is read whole

-- The view stood for v, of as many blocks as it has, and tells its blocks in the end.
pub record IsKnownWhole {S : Type 0} (view : Ghosts S) (old new : S) (v : Volume) : Type 0 where
  pub tells : view.tells new
  pub stands : view.stands_for old v
  pub number : length v ≡ view.count old

-- a view stands for a volume of as many blocks as it has
abbrev pub StandsWhole : {S : Type 0} → Ghosts S → S → Volume → Type 0
StandsWhole view old v = view.stands_for old v × (length v ≡ view.count old)

-- some metadata block of the volume is gone
abbrev pub LosesWhole : {S : Type 0} → Ghosts S → S → S → Type 0
LosesWhole view old new = LosesOne (StandsWhole view old) (view.tells new) (view.count old) (IsMetadata (view.size old) (view.count old)) (view.is_gone new)

-- some metadata block by its geometry is gone, where it has one
abbrev pub LosesWholeBy : {S : Type 0} → Ghosts S → S → S → Option Geometry → Type 0
LosesWholeBy view old new None = ⊥
LosesWholeBy view old new (Some g) = LosesOne (StandsWhole view old) (view.tells new) (view.count old) (IsMetadataBy g) (view.is_gone new)

-- only metadata blocks of the volume were fetched
abbrev pub FetchesWhole : {S : Type 0} → Ghosts S → S → S → Type 0
FetchesWhole view old new = FetchesOnly view.fetched (StandsWhole view old) (view.tells new) (IsMetadata (view.size old) (view.count old)) old new

-- only metadata blocks by its geometry were fetched, and none where it has none
abbrev pub FetchesWholeBy : {S : Type 0} → Ghosts S → S → S → Option Geometry → Type 0
FetchesWholeBy view old new None = view.fetched old [] new
FetchesWholeBy view old new (Some g) = FetchesOnly view.fetched (StandsWhole view old) (view.tells new) (IsMetadataBy g) old new
