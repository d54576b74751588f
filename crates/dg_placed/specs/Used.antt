-- Homes, copies, and the blocks of files.
use Rattle.std.specs.Prelude.{◌≡◌, ◌≢◌, ◌<◌, ◌||◌, ℕ, Bool, true, false, List, Option, Some, None, length, slice_index_or}
use Rattle.std.specs.List.{list_any}
use Rattle.dg_model.specs.Homes.{home_of}
use Rattle.dg_model.specs.Plans.{is_file}
use Rattle.dg_model.specs.declared.homes.Home.{Home}
use Rattle.dg_model.specs.declared.wants.Want.{Want}

-- file i has a home, and boundary t is another
abbrev pub IsCopy : List Home → ℕ → ℕ → Type 0
IsCopy homes i t = (s : ℕ) × (home_of homes i ≡ Some s) × (t ≢ s)

-- the home at place k of the list is that of file i
pub record StandsAt (homes : List Home) (i k : ℕ) : Type 0 where
  pub within : k < length homes
  pub own : (d : Home) → (slice_index_or homes k d).inode ≡ i

-- this is where the home of file i stands in the list, if it has one
abbrev pub IsPlaceOf : List Home → ℕ → Option ℕ → Type 0
IsPlaceOf homes i None = (k : ℕ) → StandsAt homes i k → ⊥
IsPlaceOf homes i (Some k) = StandsAt homes i k

-- one more block: the mark of its file's home is set, and the others are as they were
pub record IsMarked (homes : List Home) (want : Option Want) (old new : List Bool) : Type 0 where
  pub size : length new ≡ length old
  pub marks : (k : ℕ) (d : Home) → k < length homes → slice_index_or new k false ≡ (slice_index_or old k false || is_file (slice_index_or homes k d).inode want)

-- one mark for each home: whether its file has one of the blocks
pub record AreMarked (homes : List Home) (wants : List (Option Want)) (used : List Bool) : Type 0 where
  pub size : length used ≡ length homes
  pub marks : (k : ℕ) (d : Home) → k < length homes → slice_index_or used k false ≡ list_any (is_file (slice_index_or homes k d).inode) wants

-- all marks are set
abbrev pub AreSet : List Bool → Type 0
AreSet marks = (k : ℕ) → k < length marks → slice_index_or marks k false ≡ true

-- each home is of a file that has one of the blocks
abbrev pub HaveBlocks : List Home → List (Option Want) → Type 0
HaveBlocks homes wants = (k : ℕ) (d : Home) → k < length homes → list_any (is_file (slice_index_or homes k d).inode) wants ≡ true
