-- What the private functions give. The words of this file are this crate's own.
use Rattle.std.specs.Prelude.{◌≡◌, ◌≢◌, ℕ, ◌<◌, ◌≤◌, List, [], Option, Some, None, true, if◌then◌else◌, length, drop}
use Rattle.ufs_model.specs.Chunks.{DirEntry, entry_in, fault_at, has_name, is_name, reclen_field}
use Rattle.ufs_model.specs.declared.numbers.Endian.{Endian}

-- the entry at the front of the bytes isn't refused, and these bytes come after it
pub record IsSplit (endian : Endian) (bytes : List ℕ) (entry : DirEntry) (after : List ℕ) : Type 0 where
  pub fault : fault_at endian bytes ≡ None
  pub entry_is : entry ≡ entry_in endian bytes
  pub after_is : after ≡ drop (reclen_field endian bytes) bytes
  pub moves : 0 < reclen_field endian bytes
  pub inside : reclen_field endian bytes ≤ length bytes
  pub unused : entry.inode ≡ 0 → entry.name ≡ []
  pub used : entry.inode ≢ 0 → is_name entry.name ≡ true
  pub short : length entry.name ≤ 255

-- the inode of an entry that is used and has the name
abbrev pub inode_under : List ℕ → DirEntry → Option ℕ
inode_under name entry = if has_name name entry then Some entry.inode else None
