-- What a step through a chunk gives. The words of this file are this crate's own.
use Rattle.std.specs.Prelude.{◌≡◌, ◌≢◌, ℕ, ◌≤◌, List, [], ◌∷◌, Option, Some, None, true, length}
use Rattle.ufs_model.specs.Chunks.{DirEntry, entries_in, fault_in, is_name}
use Rattle.ufs_model.specs.declared.numbers.Endian.{Endian}
use Rattle.ufs_model.specs.declared.chunks.BadEntry.{BadEntry}
use Rattle.ufs_dir.specs.declared.walks.Entry.{Entry}
use Rattle.ufs_dir.specs.declared.walks.EntryStep.{EntryStep}
use Rattle.ufs_dir.specs.declared.walks.EntryStep.TheVariants.{Entry as Next, End, Bad}

-- what an entry of the code says
abbrev pub entry_of : Entry → DirEntry
entry_of entry = record { inode = entry.inode; kind = entry.kind; name = entry.name.now }

-- What is left of a chunk: its entries from here on up to the first fault, and that fault.
pub record Left : Type 0 where
  pub entries : List DirEntry
  pub fault : Option BadEntry

-- what is left where these bytes are
abbrev pub left_in : Endian → List ℕ → Left
left_in endian bytes = record { entries = entries_in endian 0 bytes; fault = fault_in endian 0 bytes }

-- The entry is the first of those that were left, and the others are left. Whether the chunk is
-- refused, and why, stays. An unused entry has no name, and a used one has a name. Its length stands
-- in a byte (`d_namlen`).
pub record GivesEntry (old : Left) (entry : DirEntry) (new : Left) : Type 0 where
  pub entries : old.entries ≡ entry ∷ new.entries
  pub fault : old.fault ≡ new.fault
  pub unused : entry.inode ≡ 0 → entry.name ≡ []
  pub used : entry.inode ≢ 0 → is_name entry.name ≡ true
  pub short : length entry.name ≤ 255

-- no entry is left, the chunk isn't refused, and so it stays
pub record GivesEnd (old new : Left) : Type 0 where
  pub entries : old.entries ≡ []
  pub fault : old.fault ≡ None
  pub stays : new ≡ old

-- no entry is left before the fault, and so it stays
pub record GivesBad (old : Left) (bad : BadEntry) (new : Left) : Type 0 where
  pub entries : old.entries ≡ []
  pub fault : old.fault ≡ Some bad
  pub stays : new ≡ old

-- what a step gives, with this left before it and that after it
abbrev pub IsStep : Left → EntryStep → Left → Type 0
IsStep old (Next entry) new = GivesEntry old (entry_of entry) new
IsStep old End new = GivesEnd old new
IsStep old (Bad bad) new = GivesBad old bad new
