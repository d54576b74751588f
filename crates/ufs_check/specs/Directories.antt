-- What is wrong with the directories of a volume, each of which is looked at by itself.
use Rattle.std.specs.Prelude.{◌≡◌, ℕ, zero, suc, ◌/◌, ◌^◌, ◌<◌, ◌≤◌, ◌||◌, ◌&&◌, Bool, true, false, List, Option, Some, None, Result, Ok, Err, Contains, map}
use Rattle.std.specs.List.{list_any}
use Rattle.std.specs.Result.{is_ok}
use Rattle.ufs_model.specs.Audits.{AreAll}
use Rattle.ufs_model.specs.Blocks.{Volume}
use Rattle.ufs_model.specs.Chunks.{DirEntry}
use Rattle.ufs_model.specs.Inodes.{block_count}
use Rattle.ufs_model.specs.Malformations.{IsBad, IsDirectory}
use Rattle.ufs_model.specs.Metadata.{IsMetadataBy}
use Rattle.ufs_model.specs.Paths.{block_of, bytes_in_block, chunks_in, entries_before, entries_through}
use Rattle.ufs_model.specs.declared.geometries.Geometry.{Geometry}
use Rattle.ufs_model.specs.declared.inodes.Inode.{Inode}
use Rattle.ufs_model.specs.declared.malformations.BadKind.TheVariants.{Hole as HoleIn, Chunk, Entry, EntryType, Names, RootNamed}
use Rattle.ufs_model.specs.declared.numbers.Endian.{Endian}
use Rattle.ufs_model.specs.declared.reads.BadRead.TheVariants.{Hole as BadHole}
use Rattle.ufs_model.specs.declared.reads.PathRefusal.{PathRefusal}
use Rattle.ufs_model.specs.declared.reads.PathRefusal.TheVariants.{Bad}
use Rattle.ufs_check.specs.Entries.{is_refused}
use Rattle.ufs_check.specs.Notes.{AreAllBelow}
use Rattle.ufs_check.specs.OwnedEntries.{Sees, seen_all, seen_in}
use Rattle.ufs_check.specs.declared.directories.Scan.{Scan}
use Rattle.ufs_check.specs.declared.owned_entries.OwnedEntry.{OwnedEntry}
use Rattle.ufs_check.specs.declared.verdicts.DirectoryFaults.{DirectoryFaults}

-- ---- the pass

-- of each kind all directories
pub record AreDirectoryFaults (g : Geometry) (v : Volume) (faults : DirectoryFaults) : Type 0 where
  pub hole : AreAll (IsBad g v HoleIn) faults.hole.items
  pub chunk : AreAll (IsBad g v Chunk) faults.chunk.items
  pub entry : AreAll (IsBad g v Entry) faults.entry.items
  pub entry_type : AreAll (IsBad g v EntryType) faults.entry_type.items
  pub names : AreAll (IsBad g v Names) faults.names.items
  pub root_named : AreAll (IsBad g v RootNamed) faults.root_named.items

-- those below a bound, of the kinds that speak of blocks
pub record AreBlockFaultsBelow (g : Geometry) (v : Volume) (bound : ℕ) (faults : DirectoryFaults) : Type 0 where
  pub hole : AreAllBelow (IsBad g v HoleIn) bound faults.hole.items
  pub chunk : AreAllBelow (IsBad g v Chunk) bound faults.chunk.items

-- those below a bound, of the kinds that speak of entries
pub record AreEntryFaultsBelow (g : Geometry) (v : Volume) (bound : ℕ) (faults : DirectoryFaults) : Type 0 where
  pub entry : AreAllBelow (IsBad g v Entry) bound faults.entry.items
  pub entry_type : AreAllBelow (IsBad g v EntryType) bound faults.entry_type.items
  pub names : AreAllBelow (IsBad g v Names) bound faults.names.items
  pub root_named : AreAllBelow (IsBad g v RootNamed) bound faults.root_named.items

-- the same of all kinds
pub record AreDirectoryFaultsBelow (g : Geometry) (v : Volume) (bound : ℕ) (faults : DirectoryFaults) : Type 0 where
  pub blocks : AreBlockFaultsBelow g v bound faults
  pub entries : AreEntryFaultsBelow g v bound faults

-- A block that is read to look at a file of this inode as a directory: of the metadata, for the inodes that are named; or one that
-- is consulted for a file block.
pub data IsFileRead (g : Geometry) (inode : Inode) (v : Volume) : ℕ → Type 0 where
  of_metadata : {block : ℕ} → IsMetadataBy g v block → IsFileRead g inode v block
  of_file : {block : ℕ} (n : ℕ) → n < block_count g inode → Contains ((block_of g inode n v).needs) block → IsFileRead g inode v block

-- the same of an inode whose file blocks are looked at: it has fewer than 2^32 bytes
pub record IsSmallRead (g : Geometry) (v : Volume) (block : ℕ) (inode : Inode) : Type 0 where
  pub small : inode.size < 2 ^ 32
  pub read : IsFileRead g inode v block

-- a block that is read to look at the directories
pub data IsDirectoryRead (g : Geometry) (v : Volume) : ℕ → Type 0 where
  by_metadata : {block : ℕ} → IsMetadataBy g v block → IsDirectoryRead g v block
  by_directory : {block : ℕ} (i : ℕ) → IsDirectory g v i (IsSmallRead g v block) → IsDirectoryRead g v block

-- ---- one file block, of which this is read

abbrev pub hole_said : Result (Option (List ℕ)) PathRefusal → Bool
hole_said (Ok None) = true
hole_said (Ok (Some bytes)) = false
hole_said (Err refusal) = false

-- the first k chunks of the file block
abbrev pub chunks_said : ℕ → Result (Option (List ℕ)) PathRefusal → Result (List (List ℕ)) PathRefusal
chunks_said k (Ok None) = Err (Bad BadHole)
chunks_said k (Ok (Some bytes)) = Ok (chunks_in k bytes)
chunks_said k (Err refusal) = Err refusal

-- one of these chunks is refused
abbrev pub refused_said : Endian → Result (List (List ℕ)) PathRefusal → Bool
refused_said endian (Ok chunks) = list_any (is_refused endian) chunks
refused_said endian (Err refusal) = false

-- the entries of these chunks
abbrev pub entries_said : Endian → Result (List (List ℕ)) PathRefusal → Result (List DirEntry) PathRefusal
entries_said endian (Ok chunks) = entries_through endian chunks
entries_said endian (Err refusal) = Err refusal

-- what a file block with k chunks adds, of which this is read; its entries, where those of all blocks before are read
pub record ScansBlock (g : Geometry) (v : Volume) (k : ℕ) (block : Result (Option (List ℕ)) PathRefusal) (old new : Scan) : Type 0 where
  pub hole : new.hole ≡ (old.hole || hole_said block)
  pub chunk : new.chunk ≡ (old.chunk || refused_said g.endian (chunks_said k block))
  pub read : new.read ≡ (old.read && is_ok (entries_said g.endian (chunks_said k block)))
  pub entries : old.read ≡ true → (entries : List DirEntry) → entries_said g.endian (chunks_said k block) ≡ Ok entries
      → Sees g v entries old.entries.items new.entries.items

-- ---- file blocks one after the other

-- a test holds of a number below a bound
abbrev pub any_below : (ℕ → Bool) → ℕ → Bool
any_below test zero = false
any_below test (suc n) = any_below test n || test n

-- file block n is a hole
unfoldable pub hole_at : Geometry → Inode → Volume → ℕ → Bool
hole_at g inode v n = hole_said ((block_of g inode n v).value)

-- file block n has a chunk that is refused
unfoldable pub refused_at : Geometry → Inode → Volume → ℕ → Bool
refused_at g inode v n = refused_said g.endian (chunks_said (bytes_in_block g inode n / 512) ((block_of g inode n v).value))

-- the entries in memory, where these are read
abbrev pub SaysEntries : Geometry → Volume → Bool → List OwnedEntry → Result (List DirEntry) PathRefusal → Type 0
SaysEntries g v read owned (Err refusal) = read ≡ false
SaysEntries g v read owned (Ok entries) = (read ≡ true) × (seen_all owned ≡ map (seen_in g v) entries)

-- what is found in the first n file blocks
pub record ScannedBelow (g : Geometry) (inode : Inode) (v : Volume) (n : ℕ) (scan : Scan) : Type 0 where
  pub hole : scan.hole ≡ any_below (hole_at g inode v) n
  pub chunk : scan.chunk ≡ any_below (refused_at g inode v) n
  pub entries : SaysEntries g v scan.read scan.entries.items ((entries_before g inode n v).value)

-- a number of a file block, or that behind the last, behind file block n
abbrev pub IsBehind : ℕ → ℕ → ℕ → Type 0
IsBehind n count next = (n < next) × (next ≤ count)

-- the file blocks from n on, up to another one, read the same
abbrev pub AreAlike : Geometry → Inode → Volume → ℕ → ℕ → Type 0
AreAlike g inode v n next = (m : ℕ) → n ≤ m → m < next → (block_of g inode m v).value ≡ (block_of g inode n v).value

-- what is found in a directory
abbrev pub ScannedWhole : Geometry → Inode → Volume → Scan → Type 0
ScannedWhole g inode v scan = ScannedBelow g inode v (block_count g inode) scan
