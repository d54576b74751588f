-- What a spreading of copies needs, and what it leaves.
use Rattle.std.specs.Global.{Vec}
use Rattle.std.specs.Prelude.{◌≡◌, ◌⊎◌, ◌+◌, ◌*◌, ℕ, true, List, [], Option, Some, None, if◌then◌else◌, length, map, take}
use Rattle.std.specs.List.{sum_by}
use Rattle.dg_io.specs.declared.outside.Rack.{Ghosts}
use Rattle.dg_model.specs.Copies.{Spread, emptiest, fitted, lacks_copy, spread_over}
use Rattle.dg_model.specs.Placed.{IsPlaced}
use Rattle.dg_model.specs.Plans.{blocks_of}
use Rattle.dg_model.specs.States.{IsLeastLost, has_lost}
use Rattle.dg_model.specs.Tables.{Table}
use Rattle.dg_model.specs.Wants.{FitWants}
use Rattle.dg_model.specs.declared.homes.Home.{Home}
use Rattle.dg_model.specs.declared.wants.Want.{Want}
use Rattle.dg_store.specs.Answers.{SameWritten}
use Rattle.dg_store.specs.Leaves.{Leaves}
use Rattle.dg_store.specs.Stores.{KeepsBlocks, TellsAll, members_of, shape_of, table_of}
use Rattle.dg_store.specs.declared.store.Store.{Store}

-- the blocks in each list
abbrev pub lists_in : List (Vec ℕ) → List (List ℕ)
lists_in lists = map (λ (list : Vec ℕ). list.items) lists

-- how many blocks the lists have together
abbrev pub count_in : List (Vec ℕ) → ℕ
count_in lists = sum_by (λ (list : Vec ℕ). length list.items) lists

-- how many calls on the rack copies of so many blocks make at most: each reads at most all sites of its block but one, and writes one
abbrev pub copy_calls : Table → ℕ → ℕ
copy_calls table count = 2 * table.shape.b * count

-- what is copied of file i: its written blocks where it has a home and no copy, and else none
abbrev pub to_copy : List (Option Want) → List Home → List Home → ℕ → List ℕ
to_copy wants homes copies i = if lacks_copy homes copies i then blocks_of wants i else []

-- By these wants each block is in its place, and these lists are what is copied of the files, one list for each file.
pub record AreListed (wants : List (Option Want)) (table : Table) (homes copies : List Home) (files : List ℕ) (lists : List (Vec ℕ)) : Type 0 where
  pub fit : FitWants table wants
  pub placed : IsPlaced wants table homes copies
  pub listed : lists_in lists ≡ map (to_copy wants homes copies) files

-- file i, of these blocks, by its home and its copy: it gets a copy where it has a home and no copy
abbrev pub spread_with : List ℕ → ℕ → Option ℕ → Option ℕ → Spread → Spread
spread_with blocks i None there spread = spread
spread_with blocks i (Some home) (Some s) spread = spread
spread_with blocks i (Some home) None spread = fitted i (emptiest spread.table home) blocks spread

-- where blocks stand, and which files have a copy
abbrev pub spread_of : {R : Type 0} → Store R → List Home → Spread
spread_of store copies = record { table = table_of store; copies = copies }

-- Sites were taken and given up: members only fell, the same blocks are written, and the array stands for what it stood for, where each
-- member tells its bytes.
pub record Moved {R : Type 0} (rack : Ghosts R) (old new : Store R) : Type 0 where
  pub leaves : Leaves rack old new
  pub written : SameWritten (table_of old) (table_of new)
  pub stands : TellsAll rack new → KeepsBlocks rack old new

-- The first `count` of the recent files may have got copies, and so many did.
pub record HasSpread {R : Type 0} (wants : List (Option Want)) (homes : List Home) (recent : List ℕ) (count gained : ℕ)
    (before after : List Home) (old new : Store R) : Type 0 where
  pub spread : spread_of new after ≡ spread_over wants homes (take count recent) (spread_of old before)
  pub gained_is : length after ≡ length before + gained

-- that is so of some front of the recent files
pub record HasSpreadSome {R : Type 0} (wants : List (Option Want)) (homes : List Home) (recent : List ℕ)
    (before after : List Home) (old new : Store R) : Type 0 where
  pub count : ℕ
  pub gained : ℕ
  pub has : HasSpread wants homes recent count gained before after old new

-- blocks stand as in this spread, and so many copies are new
pub record IsSpread {R : Type 0} (spread : Spread) (gained : ℕ) (before after : List Home) (new : Store R) : Type 0 where
  pub is : spread_of new after ≡ spread
  pub gained_is : length after ≡ length before + gained

-- nothing has changed, since a boundary is lost
pub record IsCutShort {R : Type 0} (gained : ℕ) (before after : List Home) (old new : Store R) : Type 0 where
  pub lost : has_lost (shape_of new) (members_of new) ≡ true
  pub none : gained ≡ 0
  pub same : spread_of new after ≡ spread_of old before

-- one of both
abbrev pub SpreadsOrNot : {R : Type 0} → Spread → ℕ → List Home → List Home → Store R → Store R → Type 0
SpreadsOrNot spread gained before after old new = IsSpread spread gained before after new ⊎ IsCutShort gained before after old new

-- boundary s is the least one that is lost now
abbrev pub IsLost : {R : Type 0} → Store R → ℕ → Type 0
IsLost store s = IsLeastLost (shape_of store) (members_of store) s
