-- Parts of what makes that a state can be saved.
use Rattle.std.specs.Prelude.{◌≡◌, ◌≢◌, ◌<◌, ◌≤◌, ◌+◌, ◌*◌, ◌⊎◌, ℕ, Bool, true, false, List, [], Some, length, slice_index_or}
use Rattle.std.specs.List.{All, AllPairs, Contains}
use Rattle.std.specs.Global.{Vec}
use Rattle.dg_save.specs.Parts.{rows_in}
use Rattle.dg_model.specs.Homes.{Ascend, home_of}
use Rattle.dg_model.specs.Saves.{SavedState}
use Rattle.dg_model.specs.Tables.{Table, count_on}
use Rattle.dg_model.specs.declared.homes.Home.{Home}
use Rattle.dg_model.specs.declared.phases.Phase.{Phase}
use Rattle.dg_model.specs.declared.phases.Phase.TheVariants.{Settled}
use Rattle.dg_model.specs.declared.shapes.Shape.{Shape}
use Rattle.dg_model.specs.declared.sites.Site.{Site}

-- they ascend by inode, and each home is on a boundary of the array
pub record AreInOrder (shape : Shape) (homes : List Home) : Type 0 where
  pub ascend : Ascend homes
  pub within : All (λ home. home.boundary < shape.b) homes

-- the file of the copy has its home on another boundary
abbrev pub IsElsewhere : List Home → Home → Type 0
IsElsewhere homes copy = (s : ℕ) × (home_of homes copy.inode ≡ Some s) × (s ≢ copy.boundary)

-- there are copies only of a settled array, and each is of a file with its home elsewhere
pub record AreCopies (phase : Phase) (copies homes : List Home) : Type 0 where
  pub settled : 0 < length copies → phase ≡ Settled
  pub elsewhere : All (IsElsewhere homes) copies

pub record AreRecent (inodes : List ℕ) : Type 0 where
  pub few : length inodes ≤ 16
  pub once : AllPairs (λ i j. i ≢ j) inodes

-- the homes, copies and recent inodes of a state that can be saved
pub record AreFiles (saved : SavedState) : Type 0 where
  pub few : length saved.homes ≤ saved.table.shape.n
  pub homes : AreInOrder saved.table.shape saved.homes
  pub order : AreInOrder saved.table.shape saved.copies
  pub copies : AreCopies saved.phase saved.copies saved.homes
  pub recent : AreRecent saved.recent

-- ---- sites

abbrev pub IsInArray : Shape → Site → Type 0
IsInArray shape site = (site.boundary < shape.b) × (site.slot ≤ shape.k)

-- the place of a site's slot among all slots
abbrev pub place_in : Shape → Site → ℕ
place_in shape site = site.boundary * (shape.k + 1) + site.slot

abbrev pub is_set : List Bool → ℕ → Bool
is_set marks place = slice_index_or marks place false

-- a site in the array, in whose slot no block stands
abbrev pub IsVacant : Shape → List Bool → Site → Type 0
IsVacant shape marks site = IsInArray shape site × (is_set marks (place_in shape site) ≡ false)

-- a block can have these sites
pub record CanTake (shape : Shape) (marks : List Bool) (sites : List Site) : Type 0 where
  pub vacant : All (IsVacant shape marks) sites
  pub single : (s : ℕ) → count_on s sites ≤ 1

-- these sites' slots were marked
pub record Marks (shape : Shape) (old : List Bool) (sites : List Site) (new : List Bool) : Type 0 where
  pub size : length new ≡ length old
  pub kept : (place : ℕ) → is_set old place ≡ true → is_set new place ≡ true
  pub marked : (site : Site) → Contains sites site → is_set new (place_in shape site) ≡ true
  pub others : (place : ℕ) → is_set new place ≡ true → (is_set old place ≡ true) ⊎ ((site : Site) × Contains sites site × (place ≡ place_in shape site))

-- the table of the lists
abbrev pub table_of : Shape → List (Vec Site) → Table
table_of shape lists = record { shape = shape; rows = rows_in lists }

-- what a table keeps of the rows of its first blocks
pub record AreRows (shape : Shape) (rows : List (List Site)) : Type 0 where
  pub within : All (λ row. All (IsInArray shape) row) rows
  pub single : All (λ row. (s : ℕ) → count_on s row ≤ 1) rows
  pub one_block : (a b : ℕ) (site : Site) → Contains (slice_index_or rows a []) site → Contains (slice_index_or rows b []) site → a ≡ b

-- just their slots are marked
pub record AreMarked (shape : Shape) (rows : List (List Site)) (marks : List Bool) : Type 0 where
  pub size : length marks ≡ shape.b * (shape.k + 1)
  pub up : (b : ℕ) (site : Site) → Contains (slice_index_or rows b []) site → is_set marks (place_in shape site) ≡ true
  pub down : (place : ℕ) → is_set marks place ≡ true → (b : ℕ) × (site : Site) × Contains (slice_index_or rows b []) site × (place ≡ place_in shape site)
