-- The listing of a directory, by its entries (`dir.h`) and the inodes that they name. What is refused, in which order, and that
-- all entries are consulted before the inodes are this project's rules.
use Rattle.std.specs.Prelude.{ℕ, List, [], ◌∷◌, Result, Ok}
use Rattle.ufs_model.specs.Blocks.{Reading, known}
use Rattle.ufs_model.specs.Chunks.{DirEntry}
use Rattle.ufs_model.specs.Inodes.{kind_of}
use Rattle.ufs_model.specs.Paths.{entries_of, look_from, named_inode, names_of, volume_geometry}
use Rattle.ufs_model.specs.Readings.{and_then}
use Rattle.ufs_model.specs.declared.geometries.Geometry.{Geometry}
use Rattle.ufs_model.specs.declared.inodes.Inode.{Inode}
use Rattle.ufs_model.specs.declared.inodes.Kind.{Kind}
use Rattle.ufs_model.specs.declared.reads.PathRefusal.{PathRefusal}

-- What a listing says of an entry: how deep it is below the directory that is listed, whose own entries have depth 1; the inode
-- that it names, with its kind and its size in bytes; and its name.
pub record Listed : Type 0 where
  pub depth : ℕ
  pub inode : ℕ
  pub kind : Kind
  pub size : ℕ
  pub name : List ℕ

-- what is said of an entry that names this inode
abbrev pub listed_as : ℕ → DirEntry → Inode → Listed
listed_as depth entry inode = record { depth = depth; inode = entry.inode; kind = kind_of inode.mode; size = inode.size; name = entry.name }

-- an entry, whose inode is consulted
unfoldable pub listed_entry : Geometry → ℕ → DirEntry → Reading (Result Listed PathRefusal)
listed_entry g depth entry = and_then (named_inode g entry.inode) (λ inode. known (Ok (listed_as depth entry inode)))

-- entries in their order; the first whose inode is refused ends them
unfoldable pub listed_entries : Geometry → ℕ → List DirEntry → Reading (Result (List Listed) PathRefusal)
listed_entries g depth [] = known (Ok [])
listed_entries g depth (entry ∷ entries) =
    and_then (listed_entry g depth entry) (λ first.
    and_then (listed_entries g depth entries) (λ others.
    known (Ok (first ∷ others))))

-- The used entries of a directory. All of them are consulted, chunk after chunk, before the first inode that one of them names.
unfoldable pub listing_of : Geometry → Inode → Reading (Result (List Listed) PathRefusal)
listing_of g inode = and_then (entries_of g inode) (λ entries. listed_entries g 1 entries)

-- the listing of the directory at a path
unfoldable pub ls_of : ℕ → ℕ → List ℕ → Reading (Result (List Listed) PathRefusal)
ls_of l n path =
    and_then (volume_geometry l n) (λ g.
    and_then (look_from g (names_of path) 2) (λ found.
    listing_of g found.1))
