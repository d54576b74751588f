-- The entries of a chunk of a directory (`struct direct` in `dir.h`, `DIRBLKSIZ`). `bytes` begin at
-- an entry, and go to the end of the chunk.
use Rattle.std.specs.Prelude.{ℕ, zero, suc, ◌+◌, ◌-◌, ◌*◌, ◌%◌, ◌==◌, nat_lt, nat_le, not, ◌&&◌, ◌||◌, Bool, List, [], ◌∷◌, Option, Some, None, Result, Ok, Err, if◌then◌else◌, length, slice_index, take, drop, find, filter}
use Rattle.std.specs.List.{list_any}
use Rattle.std.specs.Int.{div_ceil}
use Rattle.std.specs.Cmp.Lexicographic.{pointwise}
use Rattle.ufs_model.specs.Numbers.{number_at}
use Rattle.ufs_model.specs.Superblocks.{unless_bad}
use Rattle.ufs_model.specs.declared.numbers.Endian.{Endian}
use Rattle.ufs_model.specs.declared.chunks.BadEntry.{BadEntry}
use Rattle.ufs_model.specs.declared.chunks.BadEntry.TheVariants.{Cut, Reclen, Name}
use Rattle.ufs_model.specs.declared.chunks.Found.{Found}
use Rattle.ufs_model.specs.declared.chunks.Found.TheVariants.{At, Absent, Bad}

-- An entry: its inode, where 0 is an unused entry; its type; and its name, none where it is unused.
pub record DirEntry : Type 0 where
  pub inode : ℕ
  pub kind : ℕ
  pub name : List ℕ

-- the fields of the entry at the front: `d_ino`, `d_reclen`, `d_type`, `d_namlen`, `d_name`
abbrev pub inode_field : Endian → List ℕ → ℕ
inode_field endian bytes = number_at endian 4 bytes 0

abbrev pub reclen_field : Endian → List ℕ → ℕ
reclen_field endian bytes = number_at endian 2 bytes 4

abbrev pub type_field : List ℕ → ℕ
type_field bytes = slice_index bytes 6

abbrev pub namlen_field : List ℕ → ℕ
namlen_field bytes = slice_index bytes 7

abbrev pub name_field : List ℕ → List ℕ
name_field bytes = take (namlen_field bytes) (drop 8 bytes)

-- the entry at the front is used
abbrev pub has_inode : Endian → List ℕ → Bool
has_inode endian bytes = not (inode_field endian bytes == 0)

unfoldable pub entry_in : Endian → List ℕ → DirEntry
entry_in endian bytes = record {
  inode = inode_field endian bytes;
  kind = type_field bytes;
  name = if has_inode endian bytes then name_field bytes else [];
}

-- The length of an entry has its head, is a multiple of 4, and stays inside the chunk. A used
-- entry's has its name and a zero byte as well (`DIRSIZ`).
unfoldable pub reclen_holds : Endian → List ℕ → Bool
reclen_holds endian bytes =
    nat_le 8 (reclen_field endian bytes) && ((reclen_field endian bytes % 4 == 0)
    && (nat_le (reclen_field endian bytes) (length bytes)
    && (not (has_inode endian bytes) || nat_le (div_ceil (8 + namlen_field bytes + 1) 4 * 4) (reclen_field endian bytes))))

-- a name has bytes, none of which is 0 or /
unfoldable pub is_name : List ℕ → Bool
is_name name = nat_lt 0 (length name) && not (list_any (λ b. (b == 0) || (b == 47)) name)

-- why the entry at the front is refused, if it is
unfoldable pub fault_at : Endian → List ℕ → Option BadEntry
fault_at endian bytes =
    if nat_lt (length bytes) 8 then Some Cut
    else if not (reclen_holds endian bytes) then Some Reclen
    else if has_inode endian bytes && not (is_name (name_field bytes)) then Some Name
    else None

-- this fault, or what is found further on
abbrev pub fault_or : Option BadEntry → Option BadEntry → Option BadEntry
fault_or (Some bad) further = Some bad
fault_or None further = further

-- The first fault of a chunk, if there is one. skip bytes at the front belong to the entry before.
unfoldable pub fault_in : Endian → ℕ → List ℕ → Option BadEntry
fault_in endian skip [] = None
fault_in endian (suc skip) (b ∷ bytes) = fault_in endian skip bytes
fault_in endian zero (b ∷ bytes) =
    fault_or (fault_at endian (b ∷ bytes)) (fault_in endian (reclen_field endian (b ∷ bytes) - 1) bytes)

-- nothing after a fault, else an entry and those further on
abbrev pub entry_before : Option BadEntry → DirEntry → List DirEntry → List DirEntry
entry_before (Some bad) entry further = []
entry_before None entry further = entry ∷ further

-- The entries of a chunk up to its first fault. skip bytes at the front belong to the entry before.
unfoldable pub entries_in : Endian → ℕ → List ℕ → List DirEntry
entries_in endian skip [] = []
entries_in endian (suc skip) (b ∷ bytes) = entries_in endian skip bytes
entries_in endian zero (b ∷ bytes) =
    entry_before (fault_at endian (b ∷ bytes)) (entry_in endian (b ∷ bytes)) (entries_in endian (reclen_field endian (b ∷ bytes) - 1) bytes)

-- A chunk is judged whole: its entries, used and unused, or its first fault.
unfoldable pub chunk_in : Endian → List ℕ → Result (List DirEntry) BadEntry
chunk_in endian bytes = unless_bad (fault_in endian 0 bytes) (entries_in endian 0 bytes)

abbrev pub is_used_entry : DirEntry → Bool
is_used_entry entry = not (entry.inode == 0)

abbrev pub used_entries : List DirEntry → List DirEntry
used_entries entries = filter is_used_entry entries

-- a used entry has the name
abbrev pub has_name : List ℕ → DirEntry → Bool
has_name name entry = is_used_entry entry && pointwise ◌==◌ entry.name name

-- the inode of an entry that is found
abbrev pub found_of : Option DirEntry → Found
found_of None = Absent
found_of (Some entry) = At entry.inode

abbrev pub found_or_bad : List ℕ → Result (List DirEntry) BadEntry → Found
found_or_bad name (Ok entries) = found_of (find (has_name name) entries)
found_or_bad name (Err bad) = Bad bad

-- The first used entry of a chunk with the name, or that there is none. In a refused chunk it is
-- the refusal, even where the name stands before the refused entry.
unfoldable pub find_in : Endian → List ℕ → List ℕ → Found
find_in endian name bytes = found_or_bad name (chunk_in endian bytes)
