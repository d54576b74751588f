-- The first malformation of a volume, by what the passes over it found.
use Rattle.std.specs.Prelude.{◌≡◌, ℕ, ◌<◌, ◌&&◌, Bool, true, List, [], ◌∷◌, Option, Some, None, Ok}
use Rattle.ufs_model.specs.Blocks.{Volume}
use Rattle.ufs_model.specs.Malformations.{IsBad, order_of}
use Rattle.ufs_model.specs.Superblocks.{geometry_of}
use Rattle.ufs_model.specs.declared.geometries.Geometry.{Geometry}
use Rattle.ufs_model.specs.declared.malformations.BadKind.{BadKind}
use Rattle.ufs_model.specs.declared.malformations.BadKind.TheVariants.{Super, GroupMagic, GroupMap, WrongType, Filesize, Past, Wild, WildIn, Align, AlignIn, Run, Twice, PastIn, Free, Unused, Hole, Chunk, Entry, EntryType, Dots, Names, DirTwice, RootNamed}
use Rattle.ufs_frames.specs.Frames.{HasWholeUppers}
use Rattle.dg_claims.specs.Tables.{ClaimTable, IsTableOf}
use Rattle.ufs_check.specs.Directories.{AreDirectoryFaults}
use Rattle.ufs_check.specs.Fragments.{AreFragmentFaults, HasClaimsOf}
use Rattle.ufs_check.specs.Groups.{AreGroupFaults}
use Rattle.ufs_check.specs.Inodes.{AreInodeFaults}
use Rattle.ufs_check.specs.Links.{AreLinkFaults}
use Rattle.ufs_check.specs.Notes.{first_in, has_none}
use Rattle.ufs_check.specs.declared.faults.Faults.{Faults}
use Rattle.ufs_check.specs.declared.faults.MetadataFaults.{MetadataFaults}
use Rattle.ufs_check.specs.declared.faults.TreeFaults.{TreeFaults}
use Rattle.ufs_check.specs.declared.verdicts.FragmentFaults.{FragmentFaults}
use Rattle.ufs_check.specs.declared.verdicts.GroupFaults.{GroupFaults}
use Rattle.ufs_check.specs.declared.verdicts.InodeFaults.{InodeFaults}
use Rattle.ufs_check.specs.declared.verdicts.Verdict.{Verdict}
use Rattle.ufs_check.specs.declared.verdicts.Verdict.TheVariants.{Sound, Malformed, Gone}

-- a volume of a view, with n blocks of l bytes, which has this geometry and the claims of a table
abbrev pub IsOnView : (Volume → Type 0) → ℕ → ℕ → Geometry → ClaimTable → Volume → Type 0
IsOnView stands l n g table v = stands v × HasClaimsOf g table v × ((geometry_of l n v).value ≡ Ok g)

-- a volume of a view, with n blocks of l bytes, of which a table has the claims
abbrev pub IsTabled : (Volume → Type 0) → ℕ → ℕ → ClaimTable → Volume → Type 0
IsTabled stands l n table v = stands v × IsTableOf l n v table

-- ---- what the passes find

-- what is found by metadata alone
pub record AreMetadataFaults (g : Geometry) (v : Volume) (faults : MetadataFaults) : Type 0 where
  pub groups : AreGroupFaults g v faults.groups
  pub inodes : AreInodeFaults g v faults.inodes
  pub fragments : AreFragmentFaults g v faults.fragments
  pub whole : HasWholeUppers g v

-- what is found in directories
pub record AreTreeFaults (g : Geometry) (v : Volume) (faults : TreeFaults) : Type 0 where
  pub directories : AreDirectoryFaults g v faults.directories
  pub links : AreLinkFaults g v faults.links

-- all of it
pub record AreAllFaults (g : Geometry) (v : Volume) (faults : Faults) : Type 0 where
  pub metadata : AreMetadataFaults g v faults.metadata
  pub tree : AreTreeFaults g v faults.tree

-- nothing is found by metadata
abbrev pub no_group_fault : GroupFaults → Bool
no_group_fault faults = has_none faults.magic.items && has_none faults.map.items

abbrev pub no_slot_fault : InodeFaults → Bool
no_slot_fault faults = ((has_none faults.past.items && has_none faults.wild.items) && has_none faults.align.items) && has_none faults.run.items

abbrev pub no_inode_fault : InodeFaults → Bool
no_inode_fault faults = ((has_none faults.wrong_type.items && has_none faults.filesize.items) && no_slot_fault faults) && has_none faults.unused.items

abbrev pub no_fragment_fault : FragmentFaults → Bool
no_fragment_fault faults =
    (((has_none faults.wild_in.items && has_none faults.align_in.items) && has_none faults.twice.items) && has_none faults.past_in.items) && has_none faults.free.items

abbrev pub no_metadata_fault : MetadataFaults → Bool
no_metadata_fault faults = (no_group_fault faults.groups && no_inode_fault faults.inodes) && no_fragment_fault faults.fragments

-- all of it, but for what is found in directories where something is found before
pub record AreFaults (g : Geometry) (v : Volume) (faults : Faults) : Type 0 where
  pub metadata : AreMetadataFaults g v faults.metadata
  pub tree : no_metadata_fault faults.metadata ≡ true → AreTreeFaults g v faults.tree

-- the numbers that are found of a kind
abbrev pub found_in : Faults → BadKind → List ℕ
found_in faults (Super bad) = []
found_in faults GroupMagic = faults.metadata.groups.magic.items
found_in faults GroupMap = faults.metadata.groups.map.items
found_in faults WrongType = faults.metadata.inodes.wrong_type.items
found_in faults Filesize = faults.metadata.inodes.filesize.items
found_in faults Past = faults.metadata.inodes.past.items
found_in faults Wild = faults.metadata.inodes.wild.items
found_in faults WildIn = faults.metadata.fragments.wild_in.items
found_in faults Align = faults.metadata.inodes.align.items
found_in faults AlignIn = faults.metadata.fragments.align_in.items
found_in faults Run = faults.metadata.inodes.run.items
found_in faults Twice = faults.metadata.fragments.twice.items
found_in faults PastIn = faults.metadata.fragments.past_in.items
found_in faults Free = faults.metadata.fragments.free.items
found_in faults Unused = faults.metadata.inodes.unused.items
found_in faults Hole = faults.tree.directories.hole.items
found_in faults Chunk = faults.tree.directories.chunk.items
found_in faults Entry = faults.tree.directories.entry.items
found_in faults EntryType = faults.tree.directories.entry_type.items
found_in faults Dots = faults.tree.links.dots.items
found_in faults Names = faults.tree.directories.names.items
found_in faults DirTwice = faults.tree.links.dir_twice.items
found_in faults RootNamed = faults.tree.directories.root_named.items

-- the least of them
abbrev pub first_found : Faults → BadKind → Option ℕ
first_found faults kind = first_in (found_in faults kind)

-- ---- the first of it

-- the kinds that are found beside those of the superblock, in their order
abbrev pub all_kinds : List BadKind
all_kinds =
    GroupMagic
    ∷ GroupMap
    ∷ WrongType
    ∷ Filesize
    ∷ Past
    ∷ Wild
    ∷ WildIn
    ∷ Align
    ∷ AlignIn
    ∷ Run
    ∷ Twice
    ∷ PastIn
    ∷ Free
    ∷ Unused
    ∷ Hole
    ∷ Chunk
    ∷ Entry
    ∷ EntryType
    ∷ Dots
    ∷ Names
    ∷ DirTwice
    ∷ RootNamed
    ∷ []

-- what is kept, or else this kind with its number
abbrev pub later : Option (BadKind × ℕ) → BadKind → Option ℕ → Option (BadKind × ℕ)
later (Some first) kind number = Some first
later None kind (Some n) = Some (kind, n)
later None kind None = None

-- what is kept, or else the first of these kinds that is found
abbrev pub first_by : (BadKind → Option ℕ) → Option (BadKind × ℕ) → List BadKind → Option (BadKind × ℕ)
first_by number first [] = first
first_by number first (kind ∷ kinds) = first_by number (later first kind (number kind)) kinds

-- ---- what it tells

-- the first kind that is there, with the least number of which it is, where the superblock gives a geometry
pub record IsFirstBad (g : Geometry) (v : Volume) (kind : BadKind) (n : ℕ) : Type 0 where
  pub here : IsBad g v kind n
  pub least : (m : ℕ) → m < n → IsBad g v kind m → ⊥
  pub first : (other : BadKind) (m : ℕ) → order_of other < order_of kind → IsBad g v other m → ⊥

-- what a verdict tells of a volume with this geometry, of which no block was missed
abbrev pub Judges : Geometry → Volume → Verdict → Type 0
Judges g v Sound = (kind : BadKind) (n : ℕ) → IsBad g v kind n → ⊥
Judges g v (Malformed kind n) = IsFirstBad g v kind n
Judges g v Gone = ⊥
