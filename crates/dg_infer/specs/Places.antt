-- Fragments at levels at which a volume claims them.
use Rattle.std.specs.Prelude.{ℕ, List, Option, slice_set}
use Rattle.dg_io.specs.declared.views.View.{Ghosts}
use Rattle.dg_model.specs.Rereads.{ClaimPlace}
use Rattle.ufs_model.specs.Blocks.{Volume}
use Rattle.ufs_model.specs.Claims.{IsClaim, IsClaimedAt, VolumeClaims, source_fragments}
use Rattle.ufs_model.specs.declared.claims.ClaimSource.{ClaimSource}
use Rattle.ufs_model.specs.declared.geometries.Geometry.{Geometry}
use Rattle.dg_infer.specs.AtHand.{OnVolumes, OnWrites}
use Rattle.dg_infer.specs.Changes.{AreClaims, IsReadyOn}
use Rattle.dg_infer.specs.Meanings.{KeptInference}
use Rattle.dg_infer.specs.Writes.{IsWriteTo}
use Rattle.dg_infer.specs.declared.watches.Touch.{Touch}

-- a volume of n blocks of l bytes claims the fragment at the level
abbrev pub IsClaimedIn : ℕ → ℕ → Volume → ClaimPlace → Type 0
IsClaimedIn l n v place = IsClaimedAt (VolumeClaims l n v) place.level place.fragment

-- the same, where the volume has this geometry
abbrev pub IsClaimedOn : Geometry → Volume → ClaimPlace → Type 0
IsClaimedOn g v place = IsClaimedAt (IsClaim (source_fragments g v)) place.level place.fragment

-- each volume claims it that the view stood for, and that has the block's bytes
abbrev pub IsClaimedRead : {S : Type 0} → Ghosts S → S → S → Geometry → ℕ → List ℕ → ClaimPlace → Type 0
IsClaimedRead view old new g block bytes place = OnVolumes view old new block bytes (λ v. IsClaimedOn g v place)

-- each of these on which all was ready for the levels
abbrev pub IsClaimedReady : {S : Type 0} → Ghosts S → S → S → Geometry → ℕ → List ℕ → (ClaimSource → List ℕ) → List Touch → ClaimPlace → Type 0
IsClaimedReady view old new g block bytes claimed touches place =
    OnVolumes view old new block bytes (λ v. IsReadyOn g v claimed block touches → IsClaimedOn g v place)

-- what a write of the block made of each volume that had the claims
abbrev pub IsClaimedAfter : {S : Type 0} → Ghosts S → S → S → Geometry → ℕ → List ℕ → (ClaimSource → List ℕ) → ClaimPlace → Type 0
IsClaimedAfter view old new g block bytes claimed place =
    OnWrites view old new block bytes (λ v w. AreClaims (source_fragments g v) claimed → IsClaimedOn g w place)

-- what the write made of each volume that the inference stood for, and that has this geometry then, or none
abbrev pub IsClaimedBehind : {S : Type 0} → Ghosts S → S → S → KeptInference → Option Geometry → ℕ → List ℕ → ClaimPlace → Type 0
IsClaimedBehind view old new kept geometry block bytes place =
    (v : Volume) → IsWriteTo view old new kept geometry block bytes v → IsClaimedIn kept.l kept.n (slice_set v block bytes) place
