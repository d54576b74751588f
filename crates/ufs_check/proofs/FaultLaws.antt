-- What is found in a directory tells what is wrong with it.
use Rattle.std.proofs.Common.{◌≡◌, ◌≢◌, ◌∙◌, ℕ, zero, suc, ◌+◌, ◌*◌, ◌%◌, ◌^◌, ◌<◌, ◌≤◌, inl, inr, ◌⊎◌, length, Bool, true, false, List, [], Option, Some, None, Result, Ok, Err, refl, sym, ap, subst, arith}
use Rattle.std.specs.Prelude.{◌==◌, ◌||◌, ◌&&◌, Contains, MatchOption, not, if◌then◌else◌, slice_get, nat_le, nat_lt}
use Rattle.std.specs.Bool.{Decides}
use Rattle.std.specs.List.{list_any}
use Rattle.std.specs.Option.{is_none, is_some}
use Rattle.std.proofs.lemmas.Bool.{and_parts, cases_order, or_cases, or_left, or_right}
use Rattle.std.proofs.lemmas.Bool.Decides.{Decides-and, Decides-eqb, Decides-like, Decides-not, Decides-or, nat_tests}
use Rattle.std.proofs.lemmas.List.Folds.{Any-from_list_any, list_any-from_Any}
use Rattle.std.proofs.lemmas.Option.{get_or_from_slice_get, slice_get_read, slice_get_within}
use Rattle.ufs_model.specs.Blocks.{Volume, bind}
use Rattle.ufs_model.specs.Chunks.{DirEntry, fault_in}
use Rattle.ufs_model.specs.Inodes.{block_count, entry_type_of, has_pointers, inode_of, kind_of}
use Rattle.ufs_model.specs.Malformations.{HasBadChunk, HasBadEntry, HasBadType, HasEntries, HasHole, IsBad, IsDirectory, IsInode, inode_at}
use Rattle.ufs_model.specs.Paths.{block_of, bytes_at, chunks_of, directory_refusal, entries_before, entries_of}
use Rattle.ufs_model.specs.Pointers.{file_block_of}
use Rattle.ufs_model.specs.declared.chunks.BadEntry.{BadEntry}
use Rattle.ufs_model.specs.declared.geometries.Geometry.{Geometry}
use Rattle.ufs_model.specs.declared.inodes.Inode.{Inode}
use Rattle.ufs_model.specs.declared.inodes.Kind.TheVariants.{Directory}
use Rattle.ufs_model.specs.declared.malformations.BadKind.TheVariants.{Hole as HoleIn, Chunk, Entry, EntryType, Names, RootNamed}
use Rattle.ufs_model.specs.declared.numbers.Endian.{Endian}
use Rattle.ufs_model.specs.declared.pointers.Address.{Address}
use Rattle.ufs_model.specs.declared.pointers.Address.TheVariants.{Hole, Wild, At}
use Rattle.ufs_model.specs.declared.reads.BadRead.TheVariants.{Chunk as BadChunk, Filesize as BadFilesize}
use Rattle.ufs_model.specs.declared.reads.PathRefusal.{PathRefusal}
use Rattle.ufs_model.specs.declared.reads.PathRefusal.TheVariants.{Bad}
use Rattle.ufs_check.specs.Directories.{AreBlockFaultsBelow, AreDirectoryFaults, AreDirectoryFaultsBelow, AreEntryFaultsBelow, SaysEntries, ScannedWhole, any_below, hole_at, hole_said, refused_at, refused_said}
use Rattle.ufs_check.specs.Entries.{is_refused, mistyped_in, type_differs}
use Rattle.ufs_check.specs.Names.{is_mistyped, names_none}
use Rattle.ufs_check.specs.OwnedEntries.{AreOwned, kind_in}
use Rattle.ufs_check.specs.declared.directories.Scan.{Scan}
use Rattle.ufs_check.specs.declared.owned_entries.OwnedEntry.{OwnedEntry}
use Rattle.ufs_check.specs.declared.verdicts.DirectoryFaults.{DirectoryFaults}
use Rattle.ufs_check.proofs.DirectoryLaws.{chunks_value}
use Rattle.ufs_check.proofs.NoteLaws.{all_all, all_empty, all_passed}
use Rattle.ufs_check.proofs.OwnedLaws.{any_decides, kind_none, owned_are}

-- ---- a file block below a bound

below_found : (test : ℕ → Bool) (bound : ℕ) → any_below test bound ≡ true → (n : ℕ) × (n < bound) × (test n ≡ true)
below_found test zero is = let no : false ≡ true = is in cc
below_found test (suc n) is = elim (or_cases (any_below test n) (test n) is) [
  | inl below ↦ let h = below_found test n below in (h.0, let lt = h.1 in omega arith, h.2)
  | inr here ↦ (n, omega arith, here)
]

below_here : (test : ℕ → Bool) (bound n : ℕ) → n < bound → test n ≡ true → any_below test bound ≡ true
below_here test zero n lt is = absurd (omega arith)
below_here test (suc m) n lt is = elim (cases_order n m) [
  | inl same ↦ or_right (any_below test m) (test m) (subst (λ k. test k ≡ true) same is)
  | inr other ↦ elim other [ inl less ↦ or_left (any_below test m) (test m) (below_here test m n less is) | inr greater ↦ absurd (omega arith) ]
]

-- ---- holes

pub block_value : (g : Geometry) (inode : Inode) (n : ℕ) (v : Volume) → (block_of g inode n v).value ≡ (bytes_at g ((file_block_of g inode n v).value) v).value
unfolding block_of bind
block_value g inode n v = refl

hole_is : (g : Geometry) (v : Volume) (address : Address) → Decides (hole_said ((bytes_at g address v).value)) (address ≡ Hole)
unfolding bytes_at bind
hole_is g v Hole = (λ h. refl, λ h. refl)
hole_is g v Wild = (λ h. let no : false ≡ true = h in cc, λ h. let no : Wild ≡ Hole = h in cc)
hole_is g v (At a k) = (λ h. let no : false ≡ true = h in cc, λ h. let no : At a k ≡ Hole = h in cc)

hole_decides : (g : Geometry) (inode : Inode) (v : Volume) (n : ℕ) → Decides (hole_at g inode v n) ((file_block_of g inode n v).value ≡ Hole)
unfolding hole_at
hole_decides g inode v n = subst (λ block. Decides (hole_said block) ((file_block_of g inode n v).value ≡ Hole)) (sym (block_value g inode n v)) (hole_is g v ((file_block_of g inode n v).value))

pub has_hole_decides : (g : Geometry) (inode : Inode) (v : Volume) (b : Bool) → b ≡ any_below (hole_at g inode v) (block_count g inode) → Decides b (HasHole g v inode)
has_hole_decides g inode v b is = (
  λ h. let found = below_found (hole_at g inode v) (block_count g inode) (sym is ∙ h) in record { n = found.0; is = found.1; hole = (hole_decides g inode v found.0).0 found.2 },
  λ h. is ∙ below_here (hole_at g inode v) (block_count g inode) h.n h.is ((hole_decides g inode v h.n).1 h.hole),
)

-- ---- chunks

pub record HasRefused (endian : Endian) (chunks : Result (List (List ℕ)) PathRefusal) : Type 0 where
  pub all : List (List ℕ)
  pub chunk : List ℕ
  pub bad : BadEntry
  pub are : chunks ≡ Ok all
  pub contains : Contains all chunk
  pub refused : fault_in endian 0 chunk ≡ Some bad

some_fault : (fault : Option BadEntry) → is_some fault ≡ true → (bad : BadEntry) × (fault ≡ Some bad)
some_fault None is = let no : false ≡ true = is in cc
some_fault (Some bad) is = (bad, refl)

pub refused_is : (endian : Endian) (chunks : Result (List (List ℕ)) PathRefusal) → Decides (refused_said endian chunks) (HasRefused endian chunks)
refused_is endian (Err refusal) = (λ h. let no : false ≡ true = h in cc, λ h. let no : Err refusal ≡ Ok h.all = h.are in cc)
refused_is endian (Ok chunks) = (
  λ h. let any = Any-from_list_any (is_refused endian) chunks h in let fault = some_fault (fault_in endian 0 any.1) any.4 in
      record { all = chunks; chunk = any.1; bad = fault.0; are = refl; contains = (any.0, any.2, any.3); refused = fault.1 },
  λ h. let both : Ok chunks ≡ Ok h.all = h.are in let same : h.all ≡ chunks = cc in let here = subst (λ all. Contains all h.chunk) same h.contains in
      list_any-from_Any (is_refused endian) chunks (here.0, h.chunk, here.1, here.2, ap is_some h.refused),
)

refused_decides : (g : Geometry) (inode : Inode) (v : Volume) (n : ℕ) → Decides (refused_at g inode v n) (HasRefused g.endian ((chunks_of g inode n v).value))
unfolding refused_at
refused_decides g inode v n = subst (λ chunks. Decides (refused_said g.endian chunks) (HasRefused g.endian ((chunks_of g inode n v).value))) (chunks_value g inode n v) (refused_is g.endian ((chunks_of g inode n v).value))

refused_chunk_decides : (g : Geometry) (inode : Inode) (v : Volume) (b : Bool) → b ≡ any_below (refused_at g inode v) (block_count g inode) → Decides b (HasBadChunk g v inode)
refused_chunk_decides g inode v b is = (
  λ h. let found = below_found (refused_at g inode v) (block_count g inode) (sym is ∙ h) in
      let one = (refused_decides g inode v found.0).0 found.2 in
      record { n = found.0; chunks = one.all; chunk = one.chunk; bad = one.bad; is = found.1; are = one.are; contains = one.contains; refused = one.refused },
  λ h. is ∙ below_here (refused_at g inode v) (block_count g inode) h.n h.is
      ((refused_decides g inode v h.n).1 (record { all = h.chunks; chunk = h.chunk; bad = h.bad; are = h.are; contains = h.contains; refused = h.refused })),
)

pub bad_chunk_decides : (g : Geometry) (inode : Inode) (v : Volume) (b chunk : Bool) → b ≡ (not (inode.size % 512 == 0) || chunk) → chunk ≡ any_below (refused_at g inode v) (block_count g inode)
    → Decides b ((inode.size % 512 ≢ 0) ⊎ HasBadChunk g v inode)
bad_chunk_decides g inode v b chunk is found =
    subst (λ b. Decides b ((inode.size % 512 ≢ 0) ⊎ HasBadChunk g v inode)) (sym is)
    (Decides-or (not (inode.size % 512 == 0)) chunk (Decides-not (inode.size % 512 == 0) (Decides-eqb (inode.size % 512) 0)) (refused_chunk_decides g inode v chunk found))

-- ---- a directory

pub directory_decides : (g : Geometry) (v : Volume) (i : ℕ) (holds : Inode → Type 0) (inode : Inode) (b : Bool) → inode_at g v i ≡ Some inode
    → kind_of inode.mode ≡ Directory → Decides b (holds inode) → Decides b (IsDirectory g v i holds)
directory_decides g v i holds inode b is kind decides =
    subst (λ o. Decides b (MatchOption o ⊥ (λ inode. (kind_of inode.mode ≡ Directory) × holds inode))) (sym is) (λ h. (kind, decides.0 h), λ h. decides.1 (h.1))

-- what is known of a directory is known of its inode
pub directory_is : (g : Geometry) (v : Volume) (i : ℕ) (holds : Inode → Type 0) (inode : Inode) → inode_at g v i ≡ Some inode
    → IsDirectory g v i holds → (kind_of inode.mode ≡ Directory) × holds inode
directory_is g v i holds inode is h = subst (λ o. MatchOption o ⊥ (λ inode. (kind_of inode.mode ≡ Directory) × holds inode)) is h

pub directory_there : (g : Geometry) (v : Volume) (i : ℕ) (holds : Inode → Type 0) (inode : Inode) → inode_at g v i ≡ Some inode
    → kind_of inode.mode ≡ Directory → holds inode → IsDirectory g v i holds
directory_there g v i holds inode is kind h = subst (λ o. MatchOption o ⊥ (λ inode. (kind_of inode.mode ≡ Directory) × holds inode)) (sym is) (kind, h)

pub directory_none : (g : Geometry) (v : Volume) (i : ℕ) (holds : Inode → Type 0) → inode_at g v i ≡ None → IsDirectory g v i holds → ⊥
directory_none g v i holds is h = subst (λ o. MatchOption o ⊥ (λ inode. (kind_of inode.mode ≡ Directory) × holds inode)) is h

-- a hole, or a chunk that is refused, in a directory that isn't too large
abbrev pub HasSmallHole : Geometry → Volume → Inode → Type 0
HasSmallHole g v inode = (inode.size < 2 ^ 32) × HasHole g v inode

abbrev pub HasSmallChunk : Geometry → Volume → Inode → Type 0
HasSmallChunk g v inode = (inode.size < 2 ^ 32) × ((inode.size % 512 ≢ 0) ⊎ HasBadChunk g v inode)

pub small_decides : (size : ℕ) (b : Bool) (holds : Type 0) → size < 2 ^ 32 → Decides b holds → Decides b ((size < 2 ^ 32) × holds)
small_decides size b holds small decides = (λ h. (small, decides.0 h), λ h. decides.1 (h.1))

-- ---- whether its entries are read

long_entries : (g : Geometry) (inode : Inode) (v : Volume) → kind_of inode.mode ≡ Directory → 2 ^ 32 ≤ inode.size → (entries_of g inode v).value ≡ Err (Bad BadFilesize)
unfolding entries_of directory_refusal
long_entries g inode v kind long = let past : nat_le (2 ^ 32) inode.size ≡ true = grind (arith, nat_tests) in rw (kind, past) refl

pub long_unread : (g : Geometry) (v : Volume) (i : ℕ) (inode : Inode) → inode_at g v i ≡ Some inode → kind_of inode.mode ≡ Directory → 2 ^ 32 ≤ inode.size
    → (entries : List DirEntry) → HasEntries g v i entries → ⊥
long_unread g v i inode is kind long entries has =
    let value = (directory_is g v i (λ inode. (entries_of g inode v).value ≡ Ok entries) inode is has).1 in
    let no : Err (Bad BadFilesize) ≡ Ok entries = sym (long_entries g inode v kind long) ∙ value in cc

pub whole_entries : (g : Geometry) (inode : Inode) (v : Volume) → kind_of inode.mode ≡ Directory → inode.size < 2 ^ 32 → (inode.size % 512 == 0) ≡ true
    → (entries_of g inode v).value ≡ (entries_before g inode (block_count g inode) v).value
unfolding entries_of directory_refusal
whole_entries g inode v kind small whole = let fits : nat_le (2 ^ 32) inode.size ≡ false = grind (arith, nat_tests) in rw (kind, fits, whole) refl

pub torn_entries : (g : Geometry) (inode : Inode) (v : Volume) → kind_of inode.mode ≡ Directory → inode.size < 2 ^ 32 → (inode.size % 512 == 0) ≡ false
    → (entries_of g inode v).value ≡ Err (Bad BadChunk)
unfolding entries_of directory_refusal
torn_entries g inode v kind small torn = let fits : nat_le (2 ^ 32) inode.size ≡ false = grind (arith, nat_tests) in rw (kind, fits, torn) refl

-- the entries of a directory are these
pub entries_are : (g : Geometry) (v : Volume) (i : ℕ) (inode : Inode) (entries : List DirEntry) → inode_at g v i ≡ Some inode → kind_of inode.mode ≡ Directory
    → (entries_of g inode v).value ≡ Ok entries → HasEntries g v i entries
entries_are g v i inode entries is kind value = subst (λ o. MatchOption o ⊥ (λ inode. (kind_of inode.mode ≡ Directory) × ((entries_of g inode v).value ≡ Ok entries))) (sym is) (kind, value)

said_owned : (g : Geometry) (v : Volume) (i : ℕ) (inode : Inode) (said : Result (List DirEntry) PathRefusal) (read : Bool) (owned : List OwnedEntry) → SaysEntries g v read owned said → read ≡ true
    → inode_at g v i ≡ Some inode → kind_of inode.mode ≡ Directory → (entries_of g inode v).value ≡ said → AreOwned g v i owned
said_owned g v i inode (Err refusal) read owned says is there kind value = let no : false ≡ true = sym says ∙ is in cc
said_owned g v i inode (Ok entries) read owned says is there kind value = owned_are g v i owned entries says.1 (entries_are g v i inode entries there kind value)

-- the entries that are found are those of the directory
pub scanned_owned : (g : Geometry) (v : Volume) (i : ℕ) (inode : Inode) (scan : Scan) → inode_at g v i ≡ Some inode → kind_of inode.mode ≡ Directory → inode.size < 2 ^ 32
    → ((inode.size % 512 == 0) && scan.read) ≡ true → ScannedWhole g inode v scan → AreOwned g v i scan.entries.items
scanned_owned g v i inode scan there kind small is whole =
    let parts = and_parts (inode.size % 512 == 0) scan.read is in
    said_owned g v i inode ((entries_before g inode (block_count g inode) v).value) scan.read scan.entries.items whole.entries parts.1 there kind (whole_entries g inode v kind small parts.0)

said_unread : (g : Geometry) (v : Volume) (said : Result (List DirEntry) PathRefusal) (read : Bool) (owned : List OwnedEntry) (es : List DirEntry) → SaysEntries g v read owned said → read ≡ false
    → said ≡ Ok es → ⊥
said_unread g v (Err refusal) read owned es says is value = let no : Err refusal ≡ Ok es = value in cc
said_unread g v (Ok entries) read owned es says is value = let no : true ≡ false = sym says.0 ∙ is in cc

unread_by : (g : Geometry) (inode : Inode) (v : Volume) (whole read : Bool) (owned : List OwnedEntry) (es : List DirEntry) → kind_of inode.mode ≡ Directory → inode.size < 2 ^ 32 → (inode.size % 512 == 0) ≡ whole
    → (whole && read) ≡ false → SaysEntries g v read owned ((entries_before g inode (block_count g inode) v).value) → (entries_of g inode v).value ≡ Ok es → ⊥
unread_by g inode v true read owned es kind small whole is says value =
    said_unread g v ((entries_before g inode (block_count g inode) v).value) read owned es says is (sym (whole_entries g inode v kind small whole) ∙ value)
unread_by g inode v false read owned es kind small whole is says value = let no : Err (Bad BadChunk) ≡ Ok es = sym (torn_entries g inode v kind small whole) ∙ value in cc

-- where not all are found, they aren't read
pub scanned_unread : (g : Geometry) (v : Volume) (i : ℕ) (inode : Inode) (scan : Scan) → inode_at g v i ≡ Some inode → kind_of inode.mode ≡ Directory → inode.size < 2 ^ 32
    → ((inode.size % 512 == 0) && scan.read) ≡ false → ScannedWhole g inode v scan → (entries : List DirEntry) → HasEntries g v i entries → ⊥
scanned_unread g v i inode scan there kind small is whole entries has =
    unread_by g inode v (inode.size % 512 == 0) scan.read scan.entries.items entries kind small refl is whole.entries
    ((directory_is g v i (λ inode. (entries_of g inode v).value ≡ Ok entries) inode there has).1)

-- ---- entries

type_decides : (kind : ℕ) (type : Option ℕ) → Decides (type_differs kind type) (type ≢ Some kind)
type_decides kind None = (λ h e. let no : None ≡ Some kind = e in cc, λ h. refl)
type_decides kind (Some type) = Decides-not (type == kind) (Decides-like (type == kind) (λ e. ap Some e) (λ e. let both : Some type ≡ Some kind = e in cc) (Decides-eqb type kind))

mistyped_is : (kind : ℕ) (named : Option Inode) → Decides (mistyped_in kind (kind_in named)) ((kind ≢ 0) × MatchOption named ⊥ (λ inode. entry_type_of (kind_of inode.mode) ≢ Some kind))
mistyped_is kind None = (λ h. let no : false ≡ true = h in cc, λ h. absurd h.1)
mistyped_is kind (Some inode) = Decides-and (not (kind == 0)) (type_differs kind (entry_type_of (kind_of inode.mode))) (Decides-not (kind == 0) (Decides-eqb kind 0)) (type_decides kind (entry_type_of (kind_of inode.mode)))

pub bad_entry_decides : (g : Geometry) (v : Volume) (i : ℕ) (entries : List OwnedEntry) → AreOwned g v i entries → Decides (list_any names_none entries) (IsBad g v Entry i)
bad_entry_decides g v i entries all =
    Decides-like (list_any names_none entries)
    (λ h. record { k = h.k; entry = h.entry; here = h.here; none = h.is })
    (λ h. record { k = h.k; entry = h.entry; here = h.here; is = h.none })
    (any_decides g v i entries names_none (λ entry. inode_at g v entry.inode ≡ None) all
    (λ owned is. subst (λ o. Decides (is_none o) (inode_at g v owned.inode ≡ None)) (sym is) (kind_none (inode_at g v owned.inode))))

pub bad_type_decides : (g : Geometry) (v : Volume) (i : ℕ) (entries : List OwnedEntry) → AreOwned g v i entries
    → Decides (list_any is_mistyped entries) (IsBad g v EntryType i)
bad_type_decides g v i entries all =
    Decides-like (list_any is_mistyped entries)
    (λ h. record { k = h.k; entry = h.entry; here = h.here; typed = h.is.0; other = h.is.1 })
    (λ h. record { k = h.k; entry = h.entry; here = h.here; is = (h.typed, h.other) })
    (any_decides g v i entries is_mistyped
    (λ entry. (entry.kind ≢ 0) × IsInode g v entry.inode (λ inode. entry_type_of (kind_of inode.mode) ≢ Some entry.kind)) all
    (λ owned is. subst (λ o. Decides (mistyped_in owned.kind o) ((owned.kind ≢ 0) × IsInode g v owned.inode (λ inode. entry_type_of (kind_of inode.mode) ≢ Some owned.kind))) (sym is)
    (mistyped_is owned.kind (inode_at g v owned.inode))))

-- ---- what isn't noted

-- a directory whose entries aren't read
pub entries_passed : (g : Geometry) (v : Volume) (i : ℕ) (faults : DirectoryFaults) → ((entries : List DirEntry) → HasEntries g v i entries → ⊥)
    → AreEntryFaultsBelow g v i faults → AreEntryFaultsBelow g v (i + 1) faults
entries_passed g v i faults none so_far = record {
  entry = all_passed (IsBad g v Entry) i faults.entry.items (λ h. none (h.here.entries) h.here.are) so_far.entry;
  entry_type = all_passed (IsBad g v EntryType) i faults.entry_type.items (λ h. none (h.here.entries) h.here.are) so_far.entry_type;
  names = all_passed (IsBad g v Names) i faults.names.items (λ h. none (h.first.entries) h.first.are) so_far.names;
  root_named = all_passed (IsBad g v RootNamed) i faults.root_named.items (λ h. none (h.1.1.here.entries) h.1.1.here.are) so_far.root_named;
}

-- an inode that is no directory
pub blocks_passed : (g : Geometry) (v : Volume) (i : ℕ) (faults : DirectoryFaults) → ((holds : Inode → Type 0) → IsDirectory g v i holds → ⊥)
    → AreBlockFaultsBelow g v i faults → AreBlockFaultsBelow g v (i + 1) faults
blocks_passed g v i faults none so_far = record {
  hole = all_passed (IsBad g v HoleIn) i faults.hole.items (none (HasSmallHole g v)) so_far.hole;
  chunk = all_passed (IsBad g v Chunk) i faults.chunk.items (none (HasSmallChunk g v)) so_far.chunk;
}

-- of a directory that is too large neither holes nor chunks are judged
pub long_passed : (g : Geometry) (v : Volume) (i : ℕ) (inode : Inode) (faults : DirectoryFaults) → inode_at g v i ≡ Some inode → 2 ^ 32 ≤ inode.size
    → AreBlockFaultsBelow g v i faults → AreBlockFaultsBelow g v (i + 1) faults
long_passed g v i inode faults is long so_far = record {
  hole = all_passed (IsBad g v HoleIn) i faults.hole.items (λ h. let small = (directory_is g v i (HasSmallHole g v) inode is h).1.0 in absurd (omega arith)) so_far.hole;
  chunk = all_passed (IsBad g v Chunk) i faults.chunk.items (λ h. let small = (directory_is g v i (HasSmallChunk g v) inode is h).1.0 in absurd (omega arith)) so_far.chunk;
}

-- ---- all inodes

within : (g : Geometry) (v : Volume) (i : ℕ) (low high : Bool) (holds : Inode → Type 0) → nat_le 2 i ≡ low → nat_lt i (g.ncg * g.ipg) ≡ high
    → MatchOption (if low && high then (inode_of g i v).value else None) ⊥ holds → (2 ≤ i) × (i < g.ncg * g.ipg)
within g v i true true holds low high h = (grind (arith, nat_tests), grind (arith, nat_tests))
within g v i true false holds low high h = absurd h
within g v i false true holds low high h = absurd h
within g v i false false holds low high h = absurd h

-- an inode that is there is one from 2 to the last
pub inode_within : (g : Geometry) (v : Volume) (i : ℕ) (holds : Inode → Type 0) → IsInode g v i holds → (2 ≤ i) × (i < g.ncg * g.ipg)
inode_within g v i holds h = within g v i (nat_le 2 i) (nat_lt i (g.ncg * g.ipg)) holds refl refl h

pub directory_within : (g : Geometry) (v : Volume) (i : ℕ) (holds : Inode → Type 0) → IsDirectory g v i holds → (2 ≤ i) × (i < g.ncg * g.ipg)
directory_within g v i holds h = inode_within g v i (λ inode. (kind_of inode.mode ≡ Directory) × holds inode) h

pub entries_within : (g : Geometry) (v : Volume) (d : ℕ) (entries : List DirEntry) → HasEntries g v d entries → (2 ≤ d) × (d < g.ncg * g.ipg)
entries_within g v d entries has = directory_within g v d (λ inode. (entries_of g inode v).value ≡ Ok entries) has

-- nothing is noted below the root
pub directories_none : (g : Geometry) (v : Volume) (faults : DirectoryFaults) → faults.hole.items ≡ [] → faults.chunk.items ≡ [] → faults.entry.items ≡ [] → faults.entry_type.items ≡ []
    → faults.names.items ≡ [] → faults.root_named.items ≡ [] → AreDirectoryFaultsBelow g v 2 faults
directories_none g v faults hole chunk entry entry_type names root_named = record {
  blocks = record {
    hole = all_empty (IsBad g v HoleIn) 2 _ hole (λ m low h. let high = (directory_within g v m (HasSmallHole g v) h).0 in absurd (omega arith));
    chunk = all_empty (IsBad g v Chunk) 2 _ chunk (λ m low h. let high = (directory_within g v m (HasSmallChunk g v) h).0 in absurd (omega arith));
  };
  entries = record {
    entry = all_empty (IsBad g v Entry) 2 _ entry (λ m low h. let high = (entries_within g v m (h.here.entries) h.here.are).0 in absurd (omega arith));
    entry_type = all_empty (IsBad g v EntryType) 2 _ entry_type (λ m low h. let high = (entries_within g v m (h.here.entries) h.here.are).0 in absurd (omega arith));
    names = all_empty (IsBad g v Names) 2 _ names (λ m low h. let high = (entries_within g v m (h.first.entries) h.first.are).0 in absurd (omega arith));
    root_named = all_empty (IsBad g v RootNamed) 2 _ root_named (λ m low h. let high = (entries_within g v m (h.1.1.here.entries) h.1.1.here.are).0 in absurd (omega arith));
  };
}

-- those below the last are all
pub directories_all : (g : Geometry) (v : Volume) (bound : ℕ) (faults : DirectoryFaults) → g.ncg * g.ipg ≤ bound → AreDirectoryFaultsBelow g v bound faults → AreDirectoryFaults g v faults
directories_all g v bound faults last so_far = record {
  hole = all_all (IsBad g v HoleIn) bound faults.hole.items (λ m h. let low = (directory_within g v m (HasSmallHole g v) h).1 in omega arith) so_far.blocks.hole;
  chunk = all_all (IsBad g v Chunk) bound faults.chunk.items (λ m h. let low = (directory_within g v m (HasSmallChunk g v) h).1 in omega arith) so_far.blocks.chunk;
  entry = all_all (IsBad g v Entry) bound faults.entry.items (λ m h. let low = (entries_within g v m (h.here.entries) h.here.are).1 in omega arith) so_far.entries.entry;
  entry_type = all_all (IsBad g v EntryType) bound faults.entry_type.items (λ m h. let low = (entries_within g v m (h.here.entries) h.here.are).1 in omega arith) so_far.entries.entry_type;
  names = all_all (IsBad g v Names) bound faults.names.items (λ m h. let low = (entries_within g v m (h.first.entries) h.first.are).1 in omega arith) so_far.entries.names;
  root_named = all_all (IsBad g v RootNamed) bound faults.root_named.items
      (λ m h. let low = (entries_within g v m (h.1.1.here.entries) h.1.1.here.are).1 in omega arith) so_far.entries.root_named;
}
