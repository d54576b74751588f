-- Files that have their places, as ordered maps hold them.
use Rattle.std.specs.Prelude.{◌≡◌, ◌<◌, ℕ, Bool, true, false, List, [], ◌∷◌, map, Option, Some, None, Ok, Err}
use Rattle.std.specs.BTreeMap.{BTreeMap, get}
use Rattle.std.specs.Ordering.{nat_cmp}
use Rattle.dg_plan.specs.Beside.{AreLeast}
use Rattle.dg_model.specs.Plans.{Placed, directory_of, each_ok, place_file, place_with, placed_on, stay_all, waiting}
use Rattle.dg_model.specs.declared.wants.Want.{Want}
use Rattle.dg_plan.specs.Files.{files_with}
use Rattle.dg_model.specs.declared.wants.NoRoom.TheVariants.{Inode}
use Rattle.dg_model.specs.declared.parents.Parent.{Parent}
use Rattle.dg_plan.specs.declared.placings.Placing.{Placing}
use Rattle.dg_model.specs.declared.homes.Home.{Home}

-- the homes that these pairs stand for
abbrev pub homes_in : List (ℕ × ℕ) → List Home
homes_in es = map (λ (e : ℕ × ℕ). record { inode = e.0; boundary = e.1 }) es

-- its room and its homes, as the plan has them
abbrev pub placed_of : Placing → Placed
placed_of placing = record { rooms = placing.rooms.items; homes = homes_in placing.homes.entries }

-- the file beside which another goes, by the directory of that other
abbrev pub beside_in : BTreeMap ℕ Home → Option ℕ → Option Home
beside_in least None = None
beside_in least (Some d) = get nat_cmp least d

-- it has the least placed files of directories
abbrev pub HasLeast : List Parent → Placing → Type 0
HasLeast parents placing = AreLeast parents placing.least (homes_in placing.homes.entries)

-- for each list of parents by which this is the directory of file i: the least placed files of directories still are those
abbrev pub KeepsLeast : Option ℕ → ℕ → Placing → Placing → Type 0
KeepsLeast directory i old new = (parents : List Parent) → directory ≡ directory_of parents i → HasLeast parents old → HasLeast parents new

-- the file goes to its place, or there is no room for it
abbrev pub GoesBy : List Parent → ℕ → ℕ → Placing → Placing → Bool → Type 0
GoesBy parents count i old new true = (place_with count parents i (placed_of old) ≡ Ok (placed_of new)) × HasLeast parents new
GoesBy parents count i old new false = place_with count parents i (placed_of old) ≡ Err (Inode i)

-- this is so for each list of parents that the table has
abbrev pub Goes : BTreeMap ℕ ℕ → ℕ → ℕ → Placing → Placing → Bool → Type 0
Goes directories count i old new placed =
    (parents : List Parent) → ((j : ℕ) → get nat_cmp directories j ≡ directory_of parents j) → HasLeast parents old → GoesBy parents count i old new placed

-- the file has its home on some boundary
pub record Stands (i count : ℕ) (old new : Placing) : Type 0 where
  pub boundary : ℕ
  pub placed : placed_of new ≡ placed_on i count boundary (placed_of old)

-- ---- files one after another

-- each file has some blocks
abbrev pub ArePositive : List (ℕ × ℕ) → Type 0
ArePositive [] = Unit {0}
ArePositive (e ∷ es) = (0 < e.1) × ArePositive es

-- these are the files of the blocks, and the directories of the list
pub record Knows (wants : List (Option Want)) (parents : List Parent) (files : BTreeMap ℕ ℕ) (directories : BTreeMap ℕ ℕ) : Type 0 where
  pub by_file : files.entries ≡ files_with wants
  pub by_directory : (i : ℕ) → get nat_cmp directories i ≡ directory_of parents i

-- the files with homes stayed where they fit
pub record Stays (wants : List (Option Want)) (parents : List Parent) (rooms : List ℕ) (homes : List Home) (placing : Placing) : Type 0 where
  pub placed : stay_all wants homes (record { rooms = rooms; homes = [] }) ≡ placed_of placing
  pub least : HasLeast parents placing

-- this is so for all blocks and parents by which these are the files and the directories
abbrev pub AreStayed : BTreeMap ℕ ℕ → BTreeMap ℕ ℕ → List ℕ → List Home → Placing → Type 0
AreStayed files directories rooms homes placing =
    (wants : List (Option Want)) (parents : List Parent) → Knows wants parents files directories → Stays wants parents rooms homes placing

-- each other file has its place, or file i has no room
abbrev pub Places : List (Option Want) → List Parent → Placing → Placing → Option ℕ → Type 0
Places wants parents old new None = each_ok (place_file wants parents) (waiting wants (placed_of old)) (placed_of old) ≡ Ok (placed_of new)
Places wants parents old new (Some i) = each_ok (place_file wants parents) (waiting wants (placed_of old)) (placed_of old) ≡ Err (Inode i)

-- this is so for all blocks and parents by which these are the files and the directories
abbrev pub ArePlaced : BTreeMap ℕ ℕ → BTreeMap ℕ ℕ → Placing → Placing → Option ℕ → Type 0
ArePlaced files directories old new lacking =
    (wants : List (Option Want)) (parents : List Parent) → Knows wants parents files directories → HasLeast parents old → Places wants parents old new lacking
