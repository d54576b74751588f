-- The state of a scan of a volume.
use Rattle.std.specs.Prelude.{◌≡◌, ℕ, ◌*◌, ◌<◌, ◌≤◌, ◌↔◌, List, [], Option, Some, None, IfSome, Ok}
use Rattle.std.specs.List.{Contains}
use Rattle.dg_io.specs.declared.views.View.{Ghosts}
use Rattle.ufs_model.specs.Blocks.{Volume, block_at}
use Rattle.ufs_model.specs.Claims.{IsClaim, level_of, source_fragments}
use Rattle.ufs_model.specs.Inodes.{inode_block}
use Rattle.ufs_model.specs.Superblocks.{geometry_of, superblock_of}
use Rattle.ufs_model.specs.declared.claims.ClaimSource.{ClaimSource}
use Rattle.ufs_model.specs.declared.claims.ClaimSource.TheVariants.{Slot, Pointer}
use Rattle.ufs_model.specs.declared.geometries.Geometry.{Geometry}
use Rattle.ufs_model.specs.declared.inodes.Inode.{Inode}
use Rattle.ufs_pointer.specs.Fetches.{FetchesOnly, LosesOne}
use Rattle.dg_claims.specs.Tables.{inode_fragments}
use Rattle.dg_claims.specs.There.{WasThere}

-- a block in which an inode of the volume stands
abbrev pub HasInode : Geometry → Volume → ℕ → Type 0
HasInode g v b = (inode : ℕ) × (inode < g.ncg * g.ipg) × (b ≡ inode_block g inode)

-- a fragment with a claim at a level above 0
abbrev pub IsIndirect : Geometry → Volume → ℕ → Type 0
IsIndirect g v fragment = (source : ClaimSource) × IsClaim (source_fragments g v) fragment source × (0 < level_of source)

-- a fragment with a claim at a level above this one
abbrev pub IsAbove : Geometry → ℕ → Volume → ℕ → Type 0
IsAbove g most v fragment = (source : ClaimSource) × IsClaim (source_fragments g v) fragment source × (most < level_of source)

-- a fragment with a claim at this level
abbrev pub IsAtLevel : Geometry → ℕ → Volume → ℕ → Type 0
IsAtLevel g level v fragment = (source : ClaimSource) × IsClaim (source_fragments g v) fragment source × (level_of source ≡ level)

-- A block that is read for the claims of a volume v with geometry g: of the inodes, or of an indirect block.
pub data IsClaimReadBy (g : Geometry) (v : Volume) : ℕ → Type 0 where
  of_inodes : {b : ℕ} → HasInode g v b → IsClaimReadBy g v b
  of_indirects : {b : ℕ} → IsIndirect g v b → IsClaimReadBy g v b

-- A block that is read for the claims of a volume of n blocks of l bytes: of the superblock, or one by its geometry, if it has one.
pub data IsClaimRead (l n : ℕ) (v : Volume) : ℕ → Type 0 where
  of_superblock : {b : ℕ} → Contains (superblock_of l n v).needs b → IsClaimRead l n v b
  by_geometry : {b : ℕ} (g : Geometry) → (geometry_of l n v).value ≡ Ok g → IsClaimReadBy g v b → IsClaimRead l n v b

-- one of these fragments
abbrev pub IsAmong : List ℕ → Volume → ℕ → Type 0
IsAmong fragments v b = Contains fragments b

-- a source claims what it does on a volume where it is there
abbrev pub ClaimsAsOn : Geometry → Volume → (ClaimSource → List ℕ) → ClaimSource → Type 0
ClaimsAsOn g v claimed source = claimed source ≡ source_fragments g v source

-- no pointer of a fragment at one of these levels claims anything yet
abbrev pub HasNoPointers : (ClaimSource → List ℕ) → ℕ → Type 0
HasNoPointers claimed most = (fragment level at : ℕ) → level ≤ most → claimed (Pointer fragment level at) ≡ []

-- The claims of slots, and of pointers of fragments at levels above this one, are the volume's. By `sources` each source claims
-- what it does where it is there.
pub record IsRightAbove (sources claimed : ClaimSource → List ℕ) (most : ℕ) : Type 0 where
  pub slots : (fragment inode slot : ℕ) → Contains (claimed (Slot inode slot)) fragment ↔ Contains (sources (Slot inode slot)) fragment
  pub pointers : (fragment upper level at : ℕ) → most < level
      → Contains (claimed (Pointer upper level at)) fragment ↔ IsClaim sources fragment (Pointer upper level at)

-- the same of a volume that a view stands for
abbrev pub IsScanned : (Volume → Type 0) → Geometry → (ClaimSource → List ℕ) → ℕ → Volume → Type 0
IsScanned stands g claimed most v = stands v × IsRightAbove (source_fragments g v) claimed most

-- some fragment with a claim at a level above 0 is gone, where a table was right above a level
abbrev pub LosesIndirect : {S : Type 0} → Ghosts S → S → S → Geometry → (ClaimSource → List ℕ) → ℕ → Type 0
LosesIndirect view old new g claimed most =
    LosesOne (IsScanned (view.stands_for old) g claimed most) (view.tells new) (view.count old) (IsIndirect g) (view.is_gone new)

-- only such fragments were fetched
abbrev pub FetchesIndirect : {S : Type 0} → Ghosts S → S → S → Geometry → (ClaimSource → List ℕ) → ℕ → Type 0
FetchesIndirect view old new g claimed most =
    FetchesOnly view.fetched (IsScanned (view.stands_for old) g claimed most) (view.tells new) (IsIndirect g) old new

-- no fragment with a claim at this level was gone, where a table was right above it
abbrev pub HadLevel : {S : Type 0} → Ghosts S → S → S → Geometry → (ClaimSource → List ℕ) → ℕ → Type 0
HadLevel view old new g claimed level = WasThere (IsScanned (view.stands_for old) g claimed level) (view.tells new) (IsAtLevel g level) (view.is_gone old)

-- no fragment with a claim above a level was gone, where a table has the claims of slots
abbrev pub HadAbove : {S : Type 0} → Ghosts S → S → S → Geometry → (ClaimSource → List ℕ) → ℕ → Type 0
HadAbove view old new g claimed most = WasThere (IsScanned (view.stands_for old) g claimed 3) (view.tells new) (IsAbove g most) (view.is_gone old)

-- the buffer has the block of the volume that it holds, if it holds one
abbrev pub HoldsIn : ℕ → Volume → Option ℕ → List ℕ → Type 0
HoldsIn l v held buffer = IfSome held (λ b. buffer ≡ block_at l v b)

-- what a slot of an inode claims that may be unallocated
abbrev pub stored_fragments : Option Geometry → ℕ → Option Inode → ℕ → List ℕ
stored_fragments g number None slot = []
stored_fragments g number (Some inode) slot = inode_fragments g number inode slot
