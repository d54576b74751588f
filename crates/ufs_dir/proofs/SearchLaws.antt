-- The search for a name among the entries of a chunk, entry by entry.
use Rattle.std.proofs.Common.{◌≡◌, ◌∙◌, ℕ, List, [], Option, Some, None, find, refl, sym, ap}
use Rattle.ufs_model.specs.Chunks.{DirEntry, chunk_in, entries_in, fault_in, find_in, found_of, has_name}
use Rattle.ufs_model.specs.declared.numbers.Endian.{Endian}
use Rattle.ufs_model.specs.declared.chunks.BadEntry.{BadEntry}
use Rattle.ufs_model.specs.declared.chunks.Found.{Found}
use Rattle.ufs_model.specs.declared.chunks.Found.TheVariants.{At, Absent, Bad}
use Rattle.ufs_dir.specs.Steps.{GivesBad, GivesEnd, Left}

-- what is found with this inode, or without one
abbrev pub found_at : Option ℕ → Found
found_at None = Absent
found_at (Some inode) = At inode

-- the first inode so far, or that of the first of the entries that are left
abbrev pub found_further : List ℕ → Option ℕ → List DirEntry → Found
found_further name None entries = found_of (find (has_name name) entries)
found_further name (Some inode) entries = At inode

-- with the first inode so far, what is left gives what the chunk gives
pub record IsSearched (endian : Endian) (name chunk : List ℕ) (first : Option ℕ) (left : Left) : Type 0 where
  pub fault : left.fault ≡ fault_in endian 0 chunk
  pub found : found_further name first left.entries ≡ found_of (find (has_name name) (entries_in endian 0 chunk))

found_further-none : (name : List ℕ) (first : Option ℕ) → found_at first ≡ found_further name first []
found_further-none name None = refl
found_further-none name (Some inode) = refl

pub searched-ends : (endian : Endian) (name chunk : List ℕ) (first : Option ℕ) (left after : Left)
    → IsSearched endian name chunk first left → GivesEnd left after → found_at first ≡ find_in endian name chunk
unfolding find_in chunk_in
searched-ends endian name chunk first left after so step =
    rw (sym so.fault ∙ step.fault) (found_further-none name first ∙ ap (found_further name first) (sym step.entries) ∙ so.found)

pub searched-bad : (endian : Endian) (name chunk : List ℕ) (first : Option ℕ) (bad : BadEntry) (left after : Left)
    → IsSearched endian name chunk first left → GivesBad left bad after → Bad bad ≡ find_in endian name chunk
unfolding find_in chunk_in
searched-bad endian name chunk first bad left after so step = rw (sym so.fault ∙ step.fault) refl
