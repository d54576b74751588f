-- What a table of claims says. A table's claims are a relation, as a volume's are.
use Rattle.std.specs.Prelude.{◌≡◌, ◌↔◌, ◌≤◌, ◌<◌, ◌+◌, ◌/◌, ℕ, ◌*◌, List, [], Option, Some, None, Result, Ok, Err, if◌then◌else◌, option_map, slice_get}
use Rattle.std.specs.List.{Contains}
use Rattle.ufs_model.specs.Blocks.{Volume}
use Rattle.ufs_model.specs.Claims.{IsClaimedAt, VolumeClaims, level_of, pointer_fragments, slot_fragments}
use Rattle.ufs_model.specs.Inodes.{is_inode_number}
use Rattle.ufs_model.specs.Owners.{IsOnlyClaim}
use Rattle.ufs_model.specs.Superblocks.{geometry_of}
use Rattle.ufs_model.specs.declared.claims.ClaimSource.{ClaimSource}
use Rattle.ufs_model.specs.declared.claims.ClaimSource.TheVariants.{Slot, Pointer}
use Rattle.ufs_model.specs.declared.geometries.BadSuper.{BadSuper}
use Rattle.ufs_model.specs.declared.geometries.Geometry.{Geometry}
use Rattle.ufs_model.specs.declared.inodes.Inode.{Inode}

-- What a table of claims has: the geometry, and what each source claims.
pub record ClaimTable : Type 0 where
  pub geometry : Option Geometry
  pub claimed : ClaimSource → List ℕ

-- a fragment is claimed by a source, by a table
abbrev pub TableClaims : ClaimTable → ℕ → ClaimSource → Type 0
TableClaims table fragment source = Contains (table.claimed source) fragment

-- a table has just these claims
abbrev pub HasClaims : ClaimTable → (ℕ → ClaimSource → Type 0) → Type 0
HasClaims table claims = (fragment : ℕ) (source : ClaimSource) → TableClaims table fragment source ↔ claims fragment source

-- each source but the slots of an inode claims what it claimed
abbrev pub KeepsOffInode : ClaimTable → ClaimTable → ℕ → Type 0
KeepsOffInode old new number =
    (source : ClaimSource) → ((slot : ℕ) → source ≡ Slot number slot → ⊥) → new.claimed source ≡ old.claimed source

-- each source but the pointers of a fragment at a level claims what it claimed
abbrev pub KeepsOffPointers : ClaimTable → ClaimTable → ℕ → ℕ → Type 0
KeepsOffPointers old new fragment level =
    (source : ClaimSource) → ((at : ℕ) → source ≡ Pointer fragment level at → ⊥) → new.claimed source ≡ old.claimed source

-- the geometry, if the superblock isn't refused
abbrev pub accepted : Result Geometry BadSuper → Option Geometry
accepted (Ok g) = Some g
accepted (Err bad) = None

-- The table is that of a volume of n blocks of l bytes.
pub record IsTableOf (l n : ℕ) (v : Volume) (table : ClaimTable) : Type 0 where
  pub geometry : table.geometry ≡ accepted ((geometry_of l n v).value)
  pub claims : HasClaims table (VolumeClaims l n v)

-- each pointer that claims anything stands in a fragment that is claimed at the pointer's level
abbrev pub IsLeveled : ClaimTable → Type 0
IsLeveled table = (fragment upper level at : ℕ) → TableClaims table fragment (Pointer upper level at) → IsClaimedAt (TableClaims table) level upper

-- where the fragment has one claim, at most so many levels are above it
abbrev pub HasFewAbove : ClaimTable → ℕ → ℕ → Type 0
HasFewAbove table fragment levels = (source : ClaimSource) → IsOnlyClaim (TableClaims table) fragment source → 3 ≤ level_of source + levels

-- what a slot of an inode claims: nothing without a geometry, and nothing where the inode has a number below 2 or past the last
unfoldable pub inode_fragments : Option Geometry → ℕ → Inode → ℕ → List ℕ
inode_fragments None number inode slot = []
inode_fragments (Some g) number inode slot = if is_inode_number g number then slot_fragments g inode slot else []

-- what a pointer in the bytes of a fragment claims: nothing without a geometry
unfoldable pub fragment_pointers : Option Geometry → List ℕ → ℕ → List ℕ
fragment_pointers None bytes at = []
fragment_pointers (Some g) bytes at = pointer_fragments g bytes at

-- a source with its level
abbrev pub with_level : ClaimSource → ℕ × ClaimSource
with_level source = (level_of source, source)

-- one of the sources of a fragment, by its number, with its level; none past the last
abbrev pub claim_at : List ClaimSource → ℕ → Option (ℕ × ClaimSource)
claim_at sources i = option_map with_level (slice_get sources i)

-- A source of the volume: a slot of an inode from 2 to the last, or a pointer of a fragment that has a claim at a level 1 to 3.
abbrev pub IsSourceOf : Geometry → ClaimSource → Type 0
IsSourceOf g (Slot inode slot) = (2 ≤ inode) × (inode < g.ncg * g.ipg) × (slot < 15)
IsSourceOf g (Pointer fragment level at) = (1 ≤ level) × (level ≤ 3) × (at < g.fsize / 4)

-- without a geometry there is none
abbrev pub IsSource : Option Geometry → ClaimSource → Type 0
IsSource None source = ⊥
IsSource (Some g) source = IsSourceOf g source
