-- What is wrong with a volume: for each kind, of which numbers it is there. The structures are those of `fs.h`, `dinode.h` and
-- `dir.h`; the kinds and their order are this project's own.
use Rattle.std.specs.Prelude.{◌≡◌, ◌≢◌, ◌⊎◌, ◌+◌, ◌*◌, ◌/◌, ◌%◌, ◌^◌, ◌-◌, ◌<◌, ◌≤◌, ◌==◌, ℕ, true, List, [], ◌∷◌, Option, Some, None, Result, Ok, Err, MatchOption, Contains, if◌then◌else◌, slice_get}
use Rattle.ufs_model.specs.Blocks.{Volume, block_at}
use Rattle.ufs_model.specs.Chunks.{DirEntry, fault_in}
use Rattle.ufs_model.specs.Claims.{IsClaim, level_of, source_fragments}
use Rattle.ufs_model.specs.Owners.{IsOwner}
use Rattle.ufs_model.specs.GroupMaps.{group_bytes, group_in, is_marked_free, is_marked_unused}
use Rattle.ufs_model.specs.Inodes.{block_count, entry_type_of, has_pointers, inode_of, is_inode_number, kind_of, slot_of}
use Rattle.ufs_model.specs.Paths.{chunks_of, entries_of}
use Rattle.ufs_model.specs.Pointers.{address, file_block_of, pointer_in, slot_address}
use Rattle.ufs_model.specs.Superblocks.{geometry_of}
use Rattle.ufs_model.specs.declared.claims.ClaimSource.{ClaimSource}
use Rattle.ufs_model.specs.declared.claims.ClaimSource.TheVariants.{Slot, Pointer}
use Rattle.ufs_model.specs.declared.chunks.BadEntry.{BadEntry}
use Rattle.ufs_model.specs.declared.geometries.BadSuper.{BadSuper}
use Rattle.ufs_model.specs.declared.geometries.Geometry.{Geometry}
use Rattle.ufs_model.specs.declared.group_maps.BadGroup.TheVariants.{Magic as BadMagic, Map as BadMap}
use Rattle.ufs_model.specs.declared.inodes.Inode.{Inode}
use Rattle.ufs_model.specs.declared.inodes.Kind.TheVariants.{Directory, Unknown}
use Rattle.ufs_model.specs.declared.malformations.BadKind.{BadKind}
use Rattle.ufs_model.specs.declared.malformations.BadKind.TheVariants.{Super, GroupMagic, GroupMap, WrongType, Filesize, Past, Wild as WildSlot, WildIn, Align, AlignIn, Run, Twice, PastIn, Free, Unused, Hole as HoleIn, Chunk, Entry, EntryType, Dots, Names, DirTwice, RootNamed}
use Rattle.ufs_model.specs.declared.pointers.Address.TheVariants.{Hole, Wild, At}

-- the first file block that is reached through a slot
abbrev pub first_block : Geometry → ℕ → ℕ
first_block g slot =
    if slot == 13 then 12 + g.nindir
    else if slot == 14 then 12 + g.nindir + g.nindir ^ 2
    else slot

-- the names `.` and `..`
abbrev pub dot : List ℕ
dot = 46 ∷ []

abbrev pub dot_dot : List ℕ
dot_dot = 46 ∷ 46 ∷ []

-- A volume v with a geometry g.
module _ (g : Geometry) (v : Volume) where
  -- ---- inodes

  -- inode i, if it is one from 2 to the last, and allocated
  abbrev pub inode_at : ℕ → Option Inode
  inode_at i = if is_inode_number g i then (inode_of g i v).value else None

  -- such an inode of which something holds
  abbrev pub IsInode : ℕ → (Inode → Type 0) → Type 0
  IsInode i holds = MatchOption (inode_at i) ⊥ holds

  -- one with pointers, of which something holds
  abbrev pub IsPointed : ℕ → (Inode → Type 0) → Type 0
  IsPointed i holds = IsInode i (λ inode. (has_pointers g inode ≡ true) × holds inode)

  -- a directory of which something holds
  abbrev pub IsDirectory : ℕ → (Inode → Type 0) → Type 0
  IsDirectory i holds = IsInode i (λ inode. (kind_of inode.mode ≡ Directory) × holds inode)

  -- a slot that isn't 0, though no block of the file is reached through it
  pub record HasPast (inode : Inode) : Type 0 where
    pub slot : ℕ
    pub is : slot < 15
    pub some : slot_of inode slot ≢ 0
    pub past : block_count g inode ≤ first_block g slot

  pub record HasWild (inode : Inode) : Type 0 where
    pub slot : ℕ
    pub is : slot < 15
    pub wild : slot_address g inode slot ≡ Wild

  -- a slot to a whole file block that begins in the middle of one
  pub record HasMisaligned (inode : Inode) : Type 0 where
    pub slot : ℕ
    pub start : ℕ
    pub is : slot < 15
    pub whole : slot_address g inode slot ≡ At start g.frag
    pub middle : start % g.frag ≢ 0

  -- a last block of fewer fragments, which crosses from one whole file block into the next
  pub record HasCrossing (inode : Inode) : Type 0 where
    pub slot : ℕ
    pub start : ℕ
    pub count : ℕ
    pub is : slot < 12
    pub short : slot_address g inode slot ≡ At start count
    pub fewer : count < g.frag
    pub crosses : g.frag < start % g.frag + count

  -- ---- fragments

  abbrev pub Claims : ℕ → ClaimSource → Type 0
  Claims = IsClaim (source_fragments g v)

  -- a fragment of an indirect block: it is claimed at a level above 0
  pub record IsUpper (f level : ℕ) : Type 0 where
    pub source : ClaimSource
    pub claim : Claims f source
    pub of_level : level_of source ≡ level
    pub above : 0 < level

  -- pointer number at in a fragment
  abbrev pub pointer_at : ℕ → ℕ → ℕ
  pointer_at f at = pointer_in g.endian (block_at g.fsize v f) at

  pub record HasWildIn (f : ℕ) : Type 0 where
    pub level : ℕ
    pub at : ℕ
    pub upper : IsUpper f level
    pub is : at < g.fsize / 4
    pub wild : address g (pointer_at f at) g.frag ≡ Wild

  pub record HasMisalignedIn (f : ℕ) : Type 0 where
    pub level : ℕ
    pub at : ℕ
    pub start : ℕ
    pub upper : IsUpper f level
    pub is : at < g.fsize / 4
    pub whole : address g (pointer_at f at) g.frag ≡ At start g.frag
    pub middle : start % g.frag ≢ 0

  pub record HasTwoClaims (f : ℕ) : Type 0 where
    pub one : ClaimSource
    pub other : ClaimSource
    pub differ : one ≢ other
    pub first : Claims f one
    pub second : Claims f other

  -- The first file block that is reached through a source, and whose it is: through a slot as above; through a pointer by the
  -- pointers before it in its indirect block, each of which reaches as many blocks, and by what the block itself is reached through.
  pub data FirstBlock : ClaimSource → ℕ → ℕ → Type 0 where
    of_slot : {i slot : ℕ} → FirstBlock (Slot i slot) i (first_block g slot)
    of_pointer : {f level at i n : ℕ} {source : ClaimSource} (place : ℕ) → FirstBlock source i n → slice_get (source_fragments g v source) place ≡ Some f
        → level_of source ≡ level → 0 < level
        → FirstBlock (Pointer f level at) i (n + (place * (g.fsize / 4) + at) * g.nindir ^ (level - 1))

  -- a pointer that isn't 0, in a fragment with an owner, though no block of the owner's file is reached through it
  pub record HasPastIn (f : ℕ) : Type 0 where
    pub level : ℕ
    pub at : ℕ
    pub i : ℕ
    pub inode : Inode
    pub block : ℕ
    pub owned : IsOwner Claims f i level
    pub is : at < g.fsize / 4
    pub some : pointer_at f at ≢ 0
    pub reaches : FirstBlock (Pointer f level at) i block
    pub owner : inode_at i ≡ Some inode
    pub past : block_count g inode ≤ block

  pub record IsFree (f : ℕ) : Type 0 where
    pub source : ClaimSource
    pub claim : Claims f source
    pub free : (is_marked_free g f v).value ≡ true

  -- ---- directories

  -- a hole in a file block of the file
  pub record HasHole (inode : Inode) : Type 0 where
    pub n : ℕ
    pub is : n < block_count g inode
    pub hole : (file_block_of g inode n v).value ≡ Hole

  -- a chunk that is refused, in a file block that is neither a hole nor wild
  pub record HasBadChunk (inode : Inode) : Type 0 where
    pub n : ℕ
    pub chunks : List (List ℕ)
    pub chunk : List ℕ
    pub bad : BadEntry
    pub is : n < block_count g inode
    pub are : (chunks_of g inode n v).value ≡ Ok chunks
    pub contains : Contains chunks chunk
    pub refused : fault_in g.endian 0 chunk ≡ Some bad

  -- directory i has these used entries, none of its chunks is refused
  abbrev pub HasEntries : ℕ → List DirEntry → Type 0
  HasEntries i entries = IsDirectory i (λ inode. (entries_of g inode v).value ≡ Ok entries)

  -- used entry number k of directory i
  pub record EntryAt (i k : ℕ) (entry : DirEntry) : Type 0 where
    pub entries : List DirEntry
    pub are : HasEntries i entries
    pub here : slice_get entries k ≡ Some entry

  -- an entry that names an allocated inode from 2 to the last: no other is judged further
  abbrev pub IsNamed : DirEntry → Type 0
  IsNamed entry = IsInode entry.inode (λ _. Unit {0})

  -- an entry that isn't `.` or `..`
  pub record IsPlain (entry : DirEntry) : Type 0 where
    pub dot : entry.name ≢ dot
    pub dot_dot : entry.name ≢ dot_dot

  -- the same by which directory i names an inode
  pub record PlainAt (i k named : ℕ) : Type 0 where
    pub entry : DirEntry
    pub here : EntryAt i k entry
    pub plain : IsPlain entry
    pub names : entry.inode ≡ named

  -- an entry that names no allocated inode from 2 to the last
  pub record HasBadEntry (i : ℕ) : Type 0 where
    pub k : ℕ
    pub entry : DirEntry
    pub here : EntryAt i k entry
    pub none : inode_at entry.inode ≡ None

  -- an entry with a type that isn't that of its inode
  pub record HasBadType (i : ℕ) : Type 0 where
    pub k : ℕ
    pub entry : DirEntry
    pub here : EntryAt i k entry
    pub typed : entry.kind ≢ 0
    pub other : IsInode entry.inode (λ inode. entry_type_of (kind_of inode.mode) ≢ Some entry.kind)

  -- the least directory with a plain entry for inode i
  pub record IsParent (i d : ℕ) : Type 0 where
    pub k : ℕ
    pub entry : PlainAt d k i
    pub least : (other k : ℕ) → other < d → PlainAt other k i → ⊥

  -- `..` of directory i names p: the root's names the root, and another's its parent, where it has one
  pub record IsUp (i p : ℕ) : Type 0 where
    pub directory : IsDirectory p (λ _. Unit {0})
    pub root : i ≡ 2 → p ≡ 2
    pub parent : i ≢ 2 → (d : ℕ) → IsParent i d → p ≡ d

  -- the first two entries of directory i are `.` for itself and `..`, as far as they are judged
  pub record HasDots (i : ℕ) : Type 0 where
    pub own : DirEntry
    pub up : DirEntry
    pub first : EntryAt i 0 own
    pub second : EntryAt i 1 up
    pub is_own : IsNamed own → (own.name ≡ dot) × (own.inode ≡ i)
    pub is_up : IsNamed up → (up.name ≡ dot_dot) × IsUp i up.inode

  -- two entries of one name
  pub record HasSameNames (i : ℕ) : Type 0 where
    pub j : ℕ
    pub k : ℕ
    pub one : DirEntry
    pub other : DirEntry
    pub differ : j ≢ k
    pub first : EntryAt i j one
    pub second : EntryAt i k other
    pub one_named : IsNamed one
    pub other_named : IsNamed other
    pub same : one.name ≡ other.name

  -- two plain entries for directory d
  pub record IsNamedTwice (d : ℕ) : Type 0 where
    pub i : ℕ
    pub j : ℕ
    pub k : ℕ
    pub l : ℕ
    pub directory : IsDirectory d (λ _. Unit {0})
    pub differ : (i ≢ k) ⊎ (j ≢ l)
    pub first : PlainAt i j d
    pub second : PlainAt k l d

  -- ---- all kinds

  -- Of which numbers a kind is there: groups, inodes, fragments, inodes of directories. A refused group has its first refusal alone, and
  -- its inodes aren't judged as unused. Of a directory that is too large neither holes nor chunks are judged.
  abbrev pub IsBad : BadKind → ℕ → Type 0
  IsBad (Super kind) n = ⊥
  IsBad GroupMagic c = (c < g.ncg) × (group_in g c (group_bytes g c v).value ≡ Err BadMagic)
  IsBad GroupMap c = (c < g.ncg) × (group_in g c (group_bytes g c v).value ≡ Err BadMap)
  IsBad WrongType i = IsInode i (λ inode. kind_of inode.mode ≡ Unknown)
  IsBad Filesize i = IsPointed i (λ inode. 2 ^ 32 ≤ inode.size)
  IsBad Past i = IsPointed i HasPast
  IsBad WildSlot i = IsPointed i HasWild
  IsBad WildIn f = HasWildIn f
  IsBad Align i = IsPointed i HasMisaligned
  IsBad AlignIn f = HasMisalignedIn f
  IsBad Run i = IsPointed i HasCrossing
  IsBad Twice f = HasTwoClaims f
  IsBad PastIn f = HasPastIn f
  IsBad Free f = IsFree f
  IsBad Unused i = IsInode i (λ _. (is_marked_unused g i v).value ≡ true)
  IsBad HoleIn i = IsDirectory i (λ inode. (inode.size < 2 ^ 32) × HasHole inode)
  IsBad Chunk i = IsDirectory i (λ inode. (inode.size < 2 ^ 32) × ((inode.size % 512 ≢ 0) ⊎ HasBadChunk inode))
  IsBad Entry i = HasBadEntry i
  IsBad EntryType i = HasBadType i
  IsBad Dots i = ((entries : List DirEntry) × HasEntries i entries) × (HasDots i → ⊥)
  IsBad Names i = HasSameNames i
  IsBad DirTwice d = IsNamedTwice d
  IsBad RootNamed i = IsInode 2 (λ _. Unit {0}) × ((k : ℕ) × PlainAt i k 2)

-- a kind is there of a number, on a volume whose superblock gives this
abbrev pub IsBadBy : Volume → Result Geometry BadSuper → BadKind → ℕ → Type 0
IsBadBy v (Err bad) kind n = (kind ≡ Super bad) × (n ≡ 0)
IsBadBy v (Ok g) kind n = IsBad g v kind n

-- on a volume of n blocks of l bytes
unfoldable pub IsMalformed : ℕ → ℕ → Volume → BadKind → ℕ → Type 0
IsMalformed l n v kind number = IsBadBy v ((geometry_of l n v).value) kind number

-- the order of the kinds
abbrev pub order_of : BadKind → ℕ
order_of (Super kind) = 0
order_of GroupMagic = 1
order_of GroupMap = 2
order_of WrongType = 3
order_of Filesize = 4
order_of Past = 5
order_of WildSlot = 6
order_of WildIn = 7
order_of Align = 8
order_of AlignIn = 9
order_of Run = 10
order_of Twice = 11
order_of PastIn = 12
order_of Free = 13
order_of Unused = 14
order_of HoleIn = 15
order_of Chunk = 16
order_of Entry = 17
order_of EntryType = 18
order_of Dots = 19
order_of Names = 20
order_of DirTwice = 21
order_of RootNamed = 22

-- The first malformation: the first kind that is there, with the least number of which it is.
pub record IsFirstMalformation (l n : ℕ) (v : Volume) (kind : BadKind) (number : ℕ) : Type 0 where
  pub here : IsMalformed l n v kind number
  pub least : (m : ℕ) → m < number → IsMalformed l n v kind m → ⊥
  pub first : (other : BadKind) (m : ℕ) → order_of other < order_of kind → IsMalformed l n v other m → ⊥

-- a sound volume has none
abbrev pub IsSoundVolume : ℕ → ℕ → Volume → Type 0
IsSoundVolume l n v = (kind : BadKind) (number : ℕ) → IsMalformed l n v kind number → ⊥
