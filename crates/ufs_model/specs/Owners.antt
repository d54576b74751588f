-- To whom a fragment belongs, by the claims of a volume or of a table. That it has an owner only where nothing on the way up is claimed
-- twice is this project's rule. `claims` says which sources claim a fragment.
use Rattle.std.specs.Prelude.{◌≡◌, ◌<◌, ℕ}
use Rattle.ufs_model.specs.Blocks.{Volume}
use Rattle.ufs_model.specs.Claims.{HasClaimCount, VolumeClaims, level_of}
use Rattle.ufs_model.specs.declared.claims.ClaimSource.{ClaimSource}
use Rattle.ufs_model.specs.declared.claims.ClaimSource.TheVariants.{Slot, Pointer}

-- a fragment has one claim, by this source
pub record IsOnlyClaim (claims : ℕ → ClaimSource → Type 0) (fragment : ℕ) (source : ClaimSource) : Type 0 where
  pub claim : claims fragment source
  pub only : (other : ClaimSource) → claims fragment other → other ≡ source

-- The owner of a fragment, with the level of the fragment's claim: the inode at the top of the chain of sources from the
-- fragment upwards, where each fragment on the chain has one claim.
pub data IsOwner (claims : ℕ → ClaimSource → Type 0) : ℕ → ℕ → ℕ → Type 0 where
  by_own_slot : {fragment inode slot level : ℕ} → IsOnlyClaim claims fragment (Slot inode slot) → level_of (Slot inode slot) ≡ level
      → IsOwner claims fragment inode level
  by_upper : {fragment upper at inode level above : ℕ} → IsOnlyClaim claims fragment (Pointer upper above at)
      → level_of (Pointer upper above at) ≡ level → IsOwner claims upper inode above → IsOwner claims fragment inode level

-- A fragment is shared: so many claims are on the first fragment on the chain upwards, from the fragment itself on, that has more than one.
pub data IsShared (claims : ℕ → ClaimSource → Type 0) : ℕ → ℕ → Type 0 where
  by_itself : {fragment count : ℕ} → HasClaimCount claims fragment count → 1 < count → IsShared claims fragment count
  by_chain : {fragment upper level at count : ℕ} → IsOnlyClaim claims fragment (Pointer upper level at) → IsShared claims upper count
      → IsShared claims fragment count

-- block b of a volume of n blocks of l bytes belongs to inode i, by a claim of this level
abbrev pub BelongsTo : ℕ → ℕ → Volume → ℕ → ℕ → ℕ → Type 0
BelongsTo l n v b i level = IsOwner (VolumeClaims l n v) b i level

-- it is shared, with so many claims
abbrev pub IsSharedOn : ℕ → ℕ → Volume → ℕ → ℕ → Type 0
IsSharedOn l n v b count = IsShared (VolumeClaims l n v) b count
