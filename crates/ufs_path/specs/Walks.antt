-- What the private functions say, which list the entries of a directory.
use Rattle.std.specs.Prelude.{◌≡◌, ◌≤◌, ◌++◌, ◌⊎◌, ℕ, Bool, List, [], ◌∷◌, length, Option, Some, Result, Ok, Err}
use Rattle.std.specs.List.{list_all}
use Rattle.std.specs.Option.{is_none, option_map}
use Rattle.dg_model.specs.Causes.{Rose}
use Rattle.ufs_model.specs.Blocks.{Reading, Volume, known}
use Rattle.ufs_model.specs.Chunks.{DirEntry, entries_in, fault_in, used_entries}
use Rattle.ufs_model.specs.Listings.{Listed, listed_entries, listing_of}
use Rattle.ufs_model.specs.Paths.{chunks_in, chunks_of, entries_before, entries_through, look_from, names_of}
use Rattle.ufs_model.specs.Readings.{and_then}
use Rattle.ufs_model.specs.declared.geometries.Geometry.{Geometry}
use Rattle.ufs_model.specs.declared.inodes.Inode.{Inode}
use Rattle.ufs_model.specs.declared.numbers.Endian.{Endian}
use Rattle.ufs_model.specs.declared.reads.PathRefusal.{PathRefusal}
use Rattle.ufs_path.specs.Answers.{refusal_of}
use Rattle.ufs_path.specs.declared.faults.LookFault.{LookFault}
use Rattle.ufs_path.specs.declared.walks.Walked.{Walked}
use Rattle.ufs_path.specs.declared.walks.Walked.TheVariants.{All, Unread, Failed}

-- ---- chunks

-- no chunk is refused
abbrev pub are_sound : Endian → List (List ℕ) → Bool
are_sound endian chunks = list_all (λ chunk. is_none (fault_in endian 0 chunk)) chunks

-- the used entries of chunks
abbrev pub entries_among : Endian → List (List ℕ) → List DirEntry
entries_among endian [] = []
entries_among endian (chunk ∷ chunks) = used_entries (entries_in endian 0 chunk) ++ entries_among endian chunks

-- the used entries in file block n of a directory
unfoldable pub block_entries : Geometry → Inode → ℕ → Reading (Result (List DirEntry) PathRefusal)
block_entries g inode n = and_then (chunks_of g inode n) (λ chunks. known (entries_through g.endian chunks))

-- what a read of them says, which leaves so many chunks at the front of the buffer
abbrev pub entries_said : Endian → Result ℕ LookFault → List ℕ → Option (Result (List DirEntry) PathRefusal)
entries_said endian (Ok count) block = Some (Ok (entries_among endian (chunks_in count block)))
entries_said endian (Err fault) block = option_map Err (refusal_of fault)

-- ---- entries that are handed on

-- The entries were handed on, in so many lines. `reads` is the reading rule of the lines of entries.
pub record AreHanded {S : Type 0} (took : S → List Listed → S → Type 0) (old new : S) (entries : List DirEntry)
    (reads : List DirEntry → Option (Result (List Listed) PathRefusal) → Type 0) (n : ℕ) : Type 0 where
  pub lines : List Listed
  pub count : length lines ≡ n
  pub taken : took old lines new
  pub read : reads entries (Some (Ok lines))

-- a front of the entries was handed on, and then the inode of one wasn't read
pub record StopsUnread {S : Type 0} (took : S → List Listed → S → Type 0) (old new : S) (entries : List DirEntry)
    (reads : List DirEntry → Option (Result (List Listed) PathRefusal) → Type 0) (n : ℕ) (fault : LookFault) : Type 0 where
  pub front : List DirEntry
  pub rest : List DirEntry
  pub whole : entries ≡ front ++ rest
  pub handed : AreHanded took old new front reads n
  pub unread : reads entries (option_map Err (refusal_of fault))

-- the receiver failed at a front of the entries
pub record StopsFailed {S : Type 0} (took_part : S → List Listed → S → Type 0) (faults : S → ℕ) (old new : S) (entries : List DirEntry)
    (reads : List DirEntry → Option (Result (List Listed) PathRefusal) → Type 0) : Type 0 where
  pub front : List DirEntry
  pub rest : List DirEntry
  pub whole : entries ≡ front ++ rest
  pub lines : List Listed
  pub taken : took_part old lines new
  pub read : reads front (Some (Ok lines))
  pub rose : Rose (faults old) (faults new)

-- what was handed on of entries
abbrev pub IsListed : {S : Type 0} → (S → List Listed → S → Type 0) → (S → List Listed → S → Type 0) → (S → ℕ) → S → S → List DirEntry
    → (List DirEntry → Option (Result (List Listed) PathRefusal) → Type 0) → Walked → Type 0
IsListed took took_part faults old new entries reads (All n) = AreHanded took old new entries reads n
IsListed took took_part faults old new entries reads (Unread n fault) = StopsUnread took old new entries reads n fault
IsListed took took_part faults old new entries reads Failed = StopsFailed took_part faults old new entries reads

-- at most so many were handed on, where their number is told
abbrev pub IsFew : ℕ → Walked → Type 0
IsFew most (All n) = n ≤ most
IsFew most (Unread n fault) = n ≤ most
IsFew most Failed = Unit {0}

-- ---- the entries of a directory

-- So of the entries in the first so many file blocks of a directory. `before k` is the reading rule of the entries in the first
-- k of them.
pub record Through (blocks : ℕ) (before : ℕ → Option (Result (List DirEntry) PathRefusal) → Type 0) (so : List DirEntry → Type 0) : Type 0 where
  pub entries : List DirEntry
  pub read : before blocks (Some (Ok entries))
  pub are : so entries

-- so of the entries of a front of them
pub record ThroughSome (count : ℕ) (before : ℕ → Option (Result (List DirEntry) PathRefusal) → Type 0) (so : List DirEntry → Type 0) : Type 0 where
  pub blocks : ℕ
  pub few : blocks ≤ count
  pub through : Through blocks before so

-- what was handed on of the entries in the first count file blocks of a directory
abbrev pub IsWalked : {S : Type 0} → (S → List Listed → S → Type 0) → (S → List Listed → S → Type 0) → (S → ℕ) → S → S → ℕ
    → (ℕ → Option (Result (List DirEntry) PathRefusal) → Type 0) → (List DirEntry → Option (Result (List Listed) PathRefusal) → Type 0) → Walked → Type 0
IsWalked took took_part faults old new count before reads (All n) = Through count before (λ entries. AreHanded took old new entries reads n)
IsWalked took took_part faults old new count before reads (Unread n fault) = ThroughSome count before (λ entries.
    StopsUnread took old new entries reads n fault ⊎ (AreHanded took old new entries reads n × before count (option_map Err (refusal_of fault))))
IsWalked took took_part faults old new count before reads Failed = ThroughSome count before (λ entries. StopsFailed took_part faults old new entries reads)

-- all entries were consulted, and then the inodes that they name
pub record AreConsulted (before : Option (Result (List DirEntry) PathRefusal) → Type 0)
    (reads : List DirEntry → Option (Result (List Listed) PathRefusal) → Type 0) : Type 0 where
  pub entries : List DirEntry
  pub lines : List Listed
  pub before_is : before (Some (Ok entries))
  pub lines_are : reads entries (Some (Ok lines))

-- the lines of the entries in the first count file blocks of a directory
unfoldable pub lines_before : Geometry → Inode → ℕ → Reading (Result (List Listed) PathRefusal)
lines_before g inode count = and_then (entries_before g inode count) (λ entries. listed_entries g 1 entries)

-- the lines of the directory at a path of a volume with this geometry
unfoldable pub ls_below : List ℕ → Geometry → Reading (Result (List Listed) PathRefusal)
ls_below path g = and_then (look_from g (names_of path) 2) (λ found. listing_of g found.1)

-- the entries in the first count file blocks of a directory are read of a volume
abbrev pub ReadsEntries : Geometry → Inode → ℕ → Volume → Type 0
ReadsEntries g inode count v = (entries : List DirEntry) × (Ok entries ≡ (entries_before g inode count v).value)
