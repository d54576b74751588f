-- What an entry in the code is.
use Rattle.std.specs.Prelude.{ℕ, ◌≤◌, List, [], ◌∷◌, map}
use Rattle.ufs_model.specs.Chunks.{DirEntry}
use Rattle.ufs_build.specs.Directories.{entry_length}
use Rattle.ufs_build.specs.declared.entries.Entry.{Entry}

abbrev pub entry_of : Entry → DirEntry
entry_of entry = record { inode = entry.inode; kind = entry.kind; name = entry.name.now }

abbrev pub entries_in : List Entry → List DirEntry
entries_in entries = map entry_of entries

-- the first entry fits in so many bytes
abbrev pub HasRoom : ℕ → List DirEntry → Type 0
HasRoom room [] = Unit {0}
HasRoom room (entry ∷ further) = entry_length entry.name ≤ room
