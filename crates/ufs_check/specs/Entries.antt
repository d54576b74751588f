-- The chunks of a directory, and what its entries name (`dir.h`). The words of this file are this crate's own.
use Rattle.std.specs.Prelude.{ℕ, ◌==◌, ◌&&◌, ◌++◌, not, Bool, true, false, List, [], ◌∷◌, Option, Some, None}
use Rattle.std.specs.Option.{is_some}
use Rattle.ufs_model.specs.Chunks.{DirEntry, entries_in, fault_in, used_entries}
use Rattle.ufs_model.specs.Inodes.{entry_type_of}
use Rattle.ufs_model.specs.declared.inodes.Kind.{Kind}
use Rattle.ufs_model.specs.declared.numbers.Endian.{Endian}

-- an entry's type isn't that of its inode
abbrev pub type_differs : ℕ → Option ℕ → Bool
type_differs kind None = true
type_differs kind (Some type) = not (type == kind)

-- an inode of a kind is there, and the entry has a type that isn't that of the inode
abbrev pub mistyped_in : ℕ → Option Kind → Bool
mistyped_in kind None = false
mistyped_in kind (Some of_inode) = not (kind == 0) && type_differs kind (entry_type_of of_inode)

-- a chunk is refused
abbrev pub is_refused : Endian → List ℕ → Bool
is_refused endian chunk = is_some (fault_in endian 0 chunk)

-- the used entries of chunks, none of which is refused
abbrev pub entries_all : Endian → List (List ℕ) → List DirEntry
entries_all endian [] = []
entries_all endian (chunk ∷ chunks) = used_entries (entries_in endian 0 chunk) ++ entries_all endian chunks
