-- Which fragments of a volume are claimed, and by what: by the slots of inodes (`di_db`, `di_ib` in `dinode.h`) and by the
-- pointers of indirect blocks. The order of claims is this project's own.
use Rattle.std.specs.Prelude.{◌≡◌, ◌↔◌, ℕ, zero, suc, ◌-◌, ◌/◌, ◌<◌, ◌==◌, nat_lt, ◌&&◌, ◌||◌, Bool, true, false, List, [], ◌∷◌, Option, Some, None, Result, Ok, Err, if◌then◌else◌, length}
use Rattle.std.specs.List.{AllPairs, Contains}
use Rattle.ufs_model.specs.Blocks.{Volume, block_at}
use Rattle.ufs_model.specs.Inodes.{has_pointers, inode_of, is_inode_number}
use Rattle.ufs_model.specs.Pointers.{address, pointer_in, slot_address}
use Rattle.ufs_model.specs.Superblocks.{geometry_of}
use Rattle.ufs_model.specs.declared.claims.ClaimSource.{ClaimSource}
use Rattle.ufs_model.specs.declared.claims.ClaimSource.TheVariants.{Slot, Pointer}
use Rattle.ufs_model.specs.declared.geometries.BadSuper.{BadSuper}
use Rattle.ufs_model.specs.declared.geometries.Geometry.{Geometry}
use Rattle.ufs_model.specs.declared.inodes.Inode.{Inode}
use Rattle.ufs_model.specs.declared.pointers.Address.{Address}
use Rattle.ufs_model.specs.declared.pointers.Address.TheVariants.{Hole, Wild, At}

-- ---- what a source claims where it is there

-- k fragments from a on
abbrev pub fragments_from : ℕ → ℕ → List ℕ
fragments_from a zero = []
fragments_from a (suc k) = a ∷ fragments_from (suc a) k

-- the fragments at an address: a hole or a wild pointer has none
abbrev pub fragments_at : Address → List ℕ
fragments_at Hole = []
fragments_at Wild = []
fragments_at (At a k) = fragments_from a k

-- the fragments that a slot of an inode claims
unfoldable pub slot_fragments : Geometry → Inode → ℕ → List ℕ
slot_fragments g inode slot = if has_pointers g inode && nat_lt slot 15 then fragments_at (slot_address g inode slot) else []

-- the fragments that pointer number at in a fragment claims: a whole file block
unfoldable pub pointer_fragments : Geometry → List ℕ → ℕ → List ℕ
pointer_fragments g bytes at =
    if nat_lt at (g.fsize / 4) then fragments_at (address g (pointer_in g.endian bytes at) g.frag) else []

-- the same of an inode, if it is allocated
abbrev pub slot_fragments_in : Geometry → ℕ → Option Inode → List ℕ
slot_fragments_in g slot None = []
slot_fragments_in g slot (Some inode) = slot_fragments g inode slot

-- What a source claims where it is there: a slot of an inode from 2 to the last, or a pointer in a fragment. It reads the
-- inode's block, or the fragment.
unfoldable pub source_fragments : Geometry → Volume → ClaimSource → List ℕ
source_fragments g v (Slot inode slot) =
    if is_inode_number g inode then slot_fragments_in g slot ((inode_of g inode v).value) else []
source_fragments g v (Pointer fragment level at) = pointer_fragments g (block_at g.fsize v fragment) at

-- without a geometry nothing is claimed
abbrev pub source_fragments_in : Volume → Result Geometry BadSuper → ClaimSource → List ℕ
source_fragments_in v (Ok g) source = source_fragments g v source
source_fragments_in v (Err bad) source = []

-- what a source claims, where it is there, on a volume of n blocks of l bytes
unfoldable pub volume_fragments : ℕ → ℕ → Volume → ClaimSource → List ℕ
volume_fragments l n v source = source_fragments_in v ((geometry_of l n v).value) source

-- ---- claims

-- The level at which a source claims: 0 for blocks of data; an indirect block has the level of the pointers in it and one more.
abbrev pub level_of : ClaimSource → ℕ
level_of (Slot inode slot) = slot - 11
level_of (Pointer fragment level at) = level - 1

-- A fragment is claimed by a source: by a slot; or by a pointer that stands in a fragment which is itself claimed at the
-- pointer's level, above 0. `claimed` is what each source claims where it is there.
pub data IsClaim (claimed : ClaimSource → List ℕ) : ℕ → ClaimSource → Type 0 where
  by_slot : {fragment inode slot : ℕ} → Contains (claimed (Slot inode slot)) fragment → IsClaim claimed fragment (Slot inode slot)
  by_pointer : {fragment upper level at : ℕ} {source : ClaimSource} → IsClaim claimed upper source → level_of source ≡ level → 0 < level
      → Contains (claimed (Pointer upper level at)) fragment → IsClaim claimed fragment (Pointer upper level at)

-- a source claims a fragment, on a volume of n blocks of l bytes
abbrev pub VolumeClaims : ℕ → ℕ → Volume → ℕ → ClaimSource → Type 0
VolumeClaims l n v = IsClaim (volume_fragments l n v)

-- a fragment is claimed at this level
pub record IsClaimedAt (claims : ℕ → ClaimSource → Type 0) (level fragment : ℕ) : Type 0 where
  pub source : ClaimSource
  pub claim : claims fragment source
  pub is : level_of source ≡ level

-- ---- claims in their order. Which sources claim a fragment is a relation here: of a volume, or of a table.

-- the sources in their order: slots by inode and slot, and then pointers by fragment, level and number
abbrev pub is_earlier_source : ClaimSource → ClaimSource → Bool
is_earlier_source (Slot i slot) (Slot j other) = nat_lt i j || ((i == j) && nat_lt slot other)
is_earlier_source (Slot i slot) (Pointer f level at) = true
is_earlier_source (Pointer f level at) (Slot i slot) = false
is_earlier_source (Pointer f level at) (Pointer h height number) =
    nat_lt f h || ((f == h) && (nat_lt level height || ((level == height) && nat_lt at number)))

-- the claims on one fragment in their order: by level, and then by source
abbrev pub is_earlier_claim : ClaimSource → ClaimSource → Bool
is_earlier_claim one other = nat_lt (level_of one) (level_of other) || ((level_of one == level_of other) && is_earlier_source one other)

-- these sources claim a fragment, each once, in their order
pub record AreClaimsOn (claims : ℕ → ClaimSource → Type 0) (fragment : ℕ) (sources : List ClaimSource) : Type 0 where
  pub each : (source : ClaimSource) → Contains sources source ↔ claims fragment source
  pub ordered : AllPairs (λ one other. is_earlier_claim one other ≡ true) sources

-- a fragment has so many claims
pub record HasClaimCount (claims : ℕ → ClaimSource → Type 0) (fragment count : ℕ) : Type 0 where
  pub sources : List ClaimSource
  pub are : AreClaimsOn claims fragment sources
  pub number : length sources ≡ count

-- A claim: a fragment, and a source that claims it. Its level is the source's.
pub record Claim : Type 0 where
  pub fragment : ℕ
  pub source : ClaimSource

abbrev pub is_earlier : Claim → Claim → Bool
is_earlier one other = nat_lt one.fragment other.fragment || ((one.fragment == other.fragment) && is_earlier_claim one.source other.source)

-- all claims, each once, ascending by fragment, level and source
pub record AreClaims (claims : ℕ → ClaimSource → Type 0) (list : List Claim) : Type 0 where
  pub each : (claim : Claim) → Contains list claim ↔ claims claim.fragment claim.source
  pub ordered : AllPairs (λ one other. is_earlier one other ≡ true) list
