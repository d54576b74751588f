-- Which directory names an inode, as it is kept while the directories of a volume are read one after another.
use Rattle.std.specs.Prelude.{◌≡◌, ◌↔◌, ◌*◌, ◌^◌, ◌<◌, ◌==◌, ◌&&◌, ℕ, Bool, true, false, List, Option, Some, None, Result, Ok, Err, MatchOption, IfSome, if◌then◌else◌, map}
use Rattle.std.specs.BTreeMap.{BTreeMap, get, is_at}
use Rattle.std.specs.List.{Contains, list_any}
use Rattle.std.specs.List.Sorted.{IsStrictlyIncreasing}
use Rattle.std.specs.Map.{lookup}
use Rattle.std.specs.Option.{is_some}
use Rattle.std.specs.Ordering.{nat_cmp}
use Rattle.std.specs.Result.{is_ok}
use Rattle.dg_model.specs.declared.parents.Parent.{Parent}
use Rattle.ufs_model.specs.Blocks.{Volume, area_of}
use Rattle.ufs_model.specs.Chunks.{DirEntry}
use Rattle.ufs_model.specs.Inodes.{block_count, inode_block, kind_of}
use Rattle.ufs_model.specs.Malformations.{IsParent, PlainAt, inode_at}
use Rattle.ufs_model.specs.Paths.{block_of, chunks_in, entries_through}
use Rattle.ufs_model.specs.Superblocks.{geometry_of}
use Rattle.ufs_model.specs.Trees.{is_plain}
use Rattle.ufs_model.specs.declared.geometries.Geometry.{Geometry}
use Rattle.ufs_model.specs.declared.inodes.Inode.{Inode}
use Rattle.ufs_model.specs.declared.inodes.Kind.TheVariants.{Directory}
use Rattle.ufs_model.specs.declared.reads.PathRefusal.{PathRefusal}
use Rattle.ufs_pointer.specs.Fetches.{IsNeeded}
use Rattle.ufs_path.specs.Walks.{block_entries}
use Rattle.ufs_path.specs.contracts.chunk_runs.ChunkRunOrd.TheImpl as order
use Rattle.ufs_path.specs.declared.chunk_runs.BlockRun.{BlockRun}
use Rattle.ufs_path.specs.declared.chunk_runs.BlockRun.TheVariants.{At, Unread, Gone}
use Rattle.ufs_path.specs.declared.chunk_runs.ChunkRun.{ChunkRun}
use Rattle.ufs_path.specs.declared.chunk_runs.Judged.{Judged}
use Rattle.ufs_path.specs.declared.chunk_runs.Judged.TheVariants.{Refused, Sound, Entered}
use Rattle.ufs_path.specs.declared.naming.NamingTable.{NamingTable}

-- ---- which blocks are read

-- a block that is needed to read file block n of an inode
abbrev pub IsBlockRead : Geometry → Inode → ℕ → Volume → ℕ → Type 0
IsBlockRead g inode n v b = IsNeeded (block_of g inode n) v b

-- one that is needed to read some file block of it
abbrev pub IsFileRead : Geometry → Inode → Volume → ℕ → Type 0
IsFileRead g inode v b = (n : ℕ) × (n < block_count g inode) × IsBlockRead g inode n v b

-- A block that is read to see which directories name inodes, on a volume with this geometry: one with an inode, or one that is needed to
-- read a file block of a directory with fewer than 2^32 bytes.
pub data IsParentRead (g : Geometry) (v : Volume) : ℕ → Type 0 where
  of_inode : {b : ℕ} (i : ℕ) → i < g.ncg * g.ipg → b ≡ inode_block g i → IsParentRead g v b
  of_directory : {b : ℕ} (i n : ℕ) (inode : Inode) → inode_at g v i ≡ Some inode → kind_of inode.mode ≡ Directory → inode.size < 2 ^ 32
      → n < block_count g inode → IsBlockRead g inode n v b → IsParentRead g v b

-- the same on a volume of n blocks of l bytes: or one of the superblock
pub data IsParentsRead (l n : ℕ) (v : Volume) : ℕ → Type 0 where
  of_superblock : {b : ℕ} → IsNeeded (geometry_of l n) v b → IsParentsRead l n v b
  by_geometry : {b : ℕ} (g : Geometry) → (geometry_of l n v).value ≡ Ok g → IsParentRead g v b → IsParentsRead l n v b

-- ---- what is kept of inodes

-- whether a plain entry among these is for inode n
abbrev pub names_inode : List DirEntry → ℕ → Bool
names_inode entries n = list_any (λ entry. is_plain entry && (entry.inode == n)) entries

-- the directory that is kept of inode n once these entries of directory i are, where this one was kept
abbrev pub kept_with : ℕ → List DirEntry → Option ℕ → ℕ → Option ℕ
kept_with i entries (Some d) n = Some d
kept_with i entries None n = if names_inode entries n then Some i else None

-- these entries of directory i were added
abbrev pub AddsEntries : ℕ → List DirEntry → (ℕ → Option ℕ) → (ℕ → Option ℕ) → Type 0
AddsEntries i entries old new = (n : ℕ) → new n ≡ kept_with i entries (old n) n

-- what a map keeps of inode n
abbrev pub kept_in : BTreeMap ℕ ℕ → ℕ → Option ℕ
kept_in directories n = get nat_cmp directories n

-- the first directory that is kept stays
abbrev pub directory_kept : Option ℕ → ℕ → ℕ
directory_kept None i = i
directory_kept (Some d) i = d

-- an entry of directory i was added, if it is plain
abbrev pub AddsEntry : ℕ → DirEntry → BTreeMap ℕ ℕ → BTreeMap ℕ ℕ → Type 0
AddsEntry i entry old new = (n : ℕ)
    → kept_in new n ≡ (if is_plain entry && (entry.inode == n) then Some (directory_kept (kept_in old entry.inode) i) else kept_in old n)

-- what is kept of inode n, of directories below a bound: the least that names it, if one does
abbrev pub IsKept : Geometry → Volume → ℕ → ℕ → Option ℕ → Type 0
IsKept g v bound n kept = MatchOption kept ((d k : ℕ) → d < bound → PlainAt g v d k n → ⊥) (λ d. (d < bound) × IsParent g v n d)

abbrev pub AreKept : Geometry → Volume → ℕ → (ℕ → Option ℕ) → Type 0
AreKept g v bound kept = (n : ℕ) → IsKept g v bound n (kept n)

-- an inode and the directory that is kept of it
abbrev pub parent_of : ℕ × ℕ → Parent
parent_of pair = record { inode = pair.0; directory = pair.1 }

-- the pairs of inodes and directories are what is kept, ascending by inode
pub record KeptAre (kept : ℕ → Option ℕ) (parents : List Parent) : Type 0 where
  pub ascend : IsStrictlyIncreasing (map (λ parent. parent.inode) parents)
  pub each : (i d : ℕ) → Contains parents (record { inode = i; directory = d }) ↔ (kept i ≡ Some d)

-- they are the inodes that directories name, with the least directory of each
pub record AreParentsBy (g : Geometry) (v : Volume) (parents : List Parent) : Type 0 where
  pub ascend : IsStrictlyIncreasing (map (λ parent. parent.inode) parents)
  pub each : (i d : ℕ) → Contains parents (record { inode = i; directory = d }) ↔ IsParent g v i d

-- ---- what is known of chunks

-- the used entries of chunks in a row, or that one of them is refused
abbrev pub run_entries : Geometry → Volume → ChunkRun → Result (List DirEntry) PathRefusal
run_entries g v run = entries_through g.endian (chunks_in run.chunks ((area_of g.fsize run.start run.fragments v).value))

-- what is known of them fits
abbrev pub IsKnown : Geometry → Volume → (ℕ → Option ℕ) → ChunkRun → Judged → Type 0
IsKnown g v kept run Refused = is_ok (run_entries g v run) ≡ false
IsKnown g v kept run Sound = is_ok (run_entries g v run) ≡ true
IsKnown g v kept run Entered = (entries : List DirEntry) × (run_entries g v run ≡ Ok entries) × ((n : ℕ) → names_inode entries n ≡ true → is_some (kept n) ≡ true)

-- what is known of chunks, among pairs
abbrev pub known_of : List (ChunkRun × Judged) → ChunkRun → Option Judged
known_of runs run = lookup (is_at (order.cmp-value.it run)) runs

abbrev pub AreKnown : Geometry → Volume → (ℕ → Option ℕ) → List (ChunkRun × Judged) → Type 0
AreKnown g v kept runs = (run : ChunkRun) → IfSome (known_of runs run) (IsKnown g v kept run)

abbrev pub sound_of : Judged → Bool
sound_of Refused = false
sound_of Sound = true
sound_of Entered = true

-- where the chunks of file block n of a directory are
abbrev pub IsRunOf : Geometry → Inode → ℕ → Volume → BlockRun → Type 0
IsRunOf g inode n v (At run) = (block_entries g inode n v).value ≡ run_entries g v run
IsRunOf g inode n v Unread = is_ok ((block_entries g inode n v).value) ≡ false
IsRunOf g inode n v Gone = Unit {0}

abbrev pub IsRunGone : BlockRun → Type 0
IsRunGone (At run) = ⊥
IsRunGone Unread = ⊥
IsRunGone Gone = Unit {0}

-- it was judged whether entries can be read, of which the volume says this
abbrev pub Judges : Geometry → Volume → Result (List DirEntry) PathRefusal → Bool → List (ChunkRun × Judged) → List (ChunkRun × Judged) → Type 0
Judges g v said sound old new = (kept : ℕ → Option ℕ) → AreKnown g v kept old → AreKnown g v kept new × (sound ≡ is_ok said)

-- ---- the table

-- these entries of directory i were added to the table
abbrev pub Enters : Geometry → Volume → ℕ → List DirEntry → NamingTable → NamingTable → Type 0
Enters g v i entries old new = AreKnown g v (kept_in old.directories) old.runs.entries
    → AreKnown g v (kept_in new.directories) new.runs.entries × AddsEntries i entries (kept_in old.directories) (kept_in new.directories)

-- the entries of directory i were, if they can be read
abbrev pub EntersIf : ℕ → Result (List DirEntry) PathRefusal → (ℕ → Option ℕ) → (ℕ → Option ℕ) → Type 0
EntersIf i (Ok entries) old new = AddsEntries i entries old new
EntersIf i (Err refusal) old new = (n : ℕ) → new n ≡ old n

abbrev pub EntersWhole : Geometry → Volume → ℕ → Result (List DirEntry) PathRefusal → NamingTable → NamingTable → Type 0
EntersWhole g v i said old new = AreKnown g v (kept_in old.directories) old.runs.entries
    → AreKnown g v (kept_in new.directories) new.runs.entries × EntersIf i said (kept_in old.directories) (kept_in new.directories)

-- the table has what the directories below a bound say
pub record FitsTable (g : Geometry) (v : Volume) (bound : ℕ) (table : NamingTable) : Type 0 where
  pub known : AreKnown g v (kept_in table.directories) table.runs.entries
  pub kept : AreKept g v bound (kept_in table.directories)
