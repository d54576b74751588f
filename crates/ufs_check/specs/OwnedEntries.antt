-- Entries in memory, each with the kind of the inode that it names. The words of this file are this crate's own.
use Rattle.std.specs.Prelude.{◌≡◌, ◌≢◌, ◌++◌, ℕ, List, Option, Some, None, map, slice_get}
use Rattle.std.specs.Option.{option_map}
use Rattle.ufs_model.specs.Blocks.{Volume}
use Rattle.ufs_model.specs.Chunks.{DirEntry}
use Rattle.ufs_model.specs.Inodes.{kind_of}
use Rattle.ufs_model.specs.Malformations.{HasEntries, dot_dot, inode_at}
use Rattle.ufs_model.specs.declared.geometries.Geometry.{Geometry}
use Rattle.ufs_model.specs.declared.inodes.Inode.{Inode}
use Rattle.ufs_model.specs.declared.inodes.Kind.{Kind}
use Rattle.ufs_check.specs.declared.owned_entries.OwnedEntry.{OwnedEntry}

-- the kind of an inode, if there is one
abbrev pub kind_in : Option Inode → Option Kind
kind_in named = option_map (λ inode. kind_of inode.mode) named

-- what an entry in memory says
abbrev pub owned_of : OwnedEntry → DirEntry
owned_of entry = record { inode = entry.inode; kind = entry.kind; name = entry.name.items }

abbrev pub owned_all : List OwnedEntry → List DirEntry
owned_all entries = map owned_of entries

-- the same with the kind that is kept of the inode that it names
abbrev pub seen_of : OwnedEntry → DirEntry × Option Kind
seen_of entry = (owned_of entry, entry.named)

abbrev pub seen_all : List OwnedEntry → List (DirEntry × Option Kind)
seen_all entries = map seen_of entries

-- an entry with the kind of the inode that it names on a volume
abbrev pub seen_in : Geometry → Volume → DirEntry → DirEntry × Option Kind
seen_in g v entry = (entry, kind_in (inode_at g v entry.inode))

-- these entries were gathered behind the others
abbrev pub Sees : Geometry → Volume → List DirEntry → List OwnedEntry → List OwnedEntry → Type 0
Sees g v entries old new = seen_all new ≡ seen_all old ++ map (seen_in g v) entries

-- where the rest of the entries is gathered as well, all were
abbrev pub Completes : Geometry → Volume → List DirEntry → List DirEntry → List OwnedEntry → List OwnedEntry → Type 0
Completes g v all rest old now = seen_all now ++ map (seen_in g v) rest ≡ seen_all old ++ map (seen_in g v) all

-- the entries of directory i are in memory, each with the kind of the inode that it names
pub record AreOwned (g : Geometry) (v : Volume) (i : ℕ) (entries : List OwnedEntry) : Type 0 where
  pub are : HasEntries g v i (owned_all entries)
  pub named : (k : ℕ) (entry : OwnedEntry) → slice_get entries k ≡ Some entry → entry.named ≡ kind_in (inode_at g v entry.inode)
