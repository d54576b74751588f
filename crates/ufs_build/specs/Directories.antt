-- The bytes of directories (`struct direct` in `dir.h`, `DIRBLKSIZ`, `DIRSIZ`).
use Rattle.std.specs.Prelude.{ℕ, suc, ◌+◌, ◌-◌, ◌*◌, ◌==◌, nat_le, List, [], ◌∷◌, ◌++◌, if◌then◌else◌, length, replicate}
use Rattle.std.specs.Int.{div_ceil}
use Rattle.ufs_model.specs.Chunks.{DirEntry}
use Rattle.ufs_model.specs.declared.numbers.Endian.{Endian}
use Rattle.ufs_build.specs.Items.{dot, dot_dot, is_dir, name_of}
use Rattle.ufs_build.specs.Parts.{number_bytes}
use Rattle.ufs_build.specs.declared.items.Item.{Item}
use Rattle.ufs_build.specs.declared.items.ItemKind.{ItemKind}
use Rattle.ufs_build.specs.declared.items.ItemKind.TheVariants.{Dir, File, Link}

-- ---- entries

-- the type by which an entry names an item (`DT_DIR`, `DT_REG`, `DT_LNK`)
abbrev pub entry_type : ItemKind → ℕ
entry_type Dir = 4
entry_type File = 8
entry_type Link = 10

-- the entry of an item with an inode
abbrev pub item_entry : ℕ → Item → DirEntry
item_entry inode item = record { inode = inode; kind = entry_type item.kind; name = name_of item.path }

-- an entry before others where the item's directory is the wanted one
abbrev pub entry_if : ℕ → ℕ → DirEntry → List DirEntry → List DirEntry
entry_if wanted parent entry further = if parent == wanted then entry ∷ further else further

-- the entries of the items of a directory; the items' inodes are counted from one on, and beside them stand those of their directories
abbrev pub entries_from : ℕ → ℕ → List Item → List ℕ → List DirEntry
entries_from directory inode [] parents = []
entries_from directory inode (item ∷ items) [] = []
entries_from directory inode (item ∷ items) (parent ∷ parents) =
    entry_if directory parent (item_entry inode item) (entries_from directory (suc inode) items parents)

-- the entries of a directory: `.`, `..`, and those of its items in their order
unfoldable pub directory_entries : List Item → List ℕ → ℕ → ℕ → List DirEntry
directory_entries items parents directory up =
    record { inode = directory; kind = 4; name = dot } ∷ record { inode = up; kind = 4; name = dot_dot } ∷ entries_from directory 3 items parents

-- ---- their bytes

-- the fewest bytes of an entry with a name: its head, the name and a zero byte, in a multiple of four
abbrev pub entry_length : List ℕ → ℕ
entry_length name = div_ceil (8 + length name + 1) 4 * 4

-- an entry that takes so many bytes
unfoldable pub entry_bytes : Endian → DirEntry → ℕ → List ℕ
entry_bytes endian entry reclen =
    number_bytes endian 4 entry.inode ++ (number_bytes endian 2 reclen ++ ((entry.kind ∷ length entry.name ∷ []) ++ (entry.name
    ++ replicate (reclen - (8 + length entry.name)) 0)))

-- The bytes that an entry takes of those left in its chunk: all, unless the next one fits behind it.
abbrev pub reclen_in : ℕ → DirEntry → List DirEntry → ℕ
reclen_in room entry [] = room
reclen_in room entry (next ∷ further) = if nat_le (entry_length entry.name + entry_length next.name) room then entry_length entry.name else room

-- what is left of a chunk behind an entry, or a new chunk
abbrev pub room_after : ℕ → ℕ → ℕ
room_after room reclen = if reclen == room then 512 else room - reclen

-- entries one behind the other, where so many bytes of the first one's chunk are left
abbrev pub packed : Endian → ℕ → List DirEntry → List ℕ
packed endian room [] = []
packed endian room (entry ∷ further) =
    entry_bytes endian entry (reclen_in room entry further) ++ packed endian (room_after room (reclen_in room entry further)) further

-- the bytes of a directory
unfoldable pub directory_bytes : Endian → List Item → List ℕ → ℕ → ℕ → List ℕ
directory_bytes endian items parents directory up = packed endian 512 (directory_entries items parents directory up)

-- the bytes of each item that is a directory, and none of the others
abbrev pub directories_from : Endian → List Item → List ℕ → ℕ → List Item → List ℕ → List (List ℕ)
directories_from endian all above inode [] parents = []
directories_from endian all above inode (item ∷ items) [] = []
directories_from endian all above inode (item ∷ items) (parent ∷ parents) =
    (if is_dir item.kind then directory_bytes endian all above inode parent else []) ∷ directories_from endian all above (suc inode) items parents

-- the bytes of the root's directory, and of those of items
unfoldable pub directories_of : Endian → List Item → List ℕ → List (List ℕ)
directories_of endian items parents = directory_bytes endian items parents 2 2 ∷ directories_from endian items parents 3 items parents
