-- What is wrong with the names of a directory's entries. The words of this file are this crate's own.
use Rattle.std.specs.Prelude.{◌≡◌, ◌≢◌, ℕ, ◌==◌, ◌&&◌, Bool, true, List, Some, slice_get}
use Rattle.std.specs.Option.{is_none, is_some}
use Rattle.ufs_model.specs.Trees.{is_plain}
use Rattle.ufs_check.specs.Entries.{mistyped_in}
use Rattle.ufs_check.specs.OwnedEntries.{owned_of}
use Rattle.ufs_check.specs.declared.owned_entries.OwnedEntry.{OwnedEntry}

-- a plain entry names the root, which is there
abbrev pub names_root : OwnedEntry → Bool
names_root entry = (is_plain (owned_of entry) && (entry.inode == 2)) && is_some entry.named

-- an entry names no inode
abbrev pub names_none : OwnedEntry → Bool
names_none entry = is_none entry.named

-- an entry has a type that isn't that of its inode
abbrev pub is_mistyped : OwnedEntry → Bool
is_mistyped entry = mistyped_in entry.kind entry.named

-- two entries of one name, each of which names an inode
pub record HasSameIn (entries : List OwnedEntry) : Type 0 where
  pub j : ℕ
  pub k : ℕ
  pub one : OwnedEntry
  pub other : OwnedEntry
  pub differ : j ≢ k
  pub first : slice_get entries j ≡ Some one
  pub second : slice_get entries k ≡ Some other
  pub one_named : is_some one.named ≡ true
  pub other_named : is_some other.named ≡ true
  pub same : one.name.items ≡ other.name.items
