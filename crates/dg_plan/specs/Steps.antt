-- What the later steps of the plan give, as the code has it.
use Rattle.std.specs.Prelude.{◌≡◌, ℕ, List, Option, Result, Ok, Err, length}
use Rattle.dg_model.specs.Plans.{Placed, Scattered, targets_of}
use Rattle.dg_model.specs.Homes.{Ascend}
use Rattle.dg_model.specs.declared.homes.Home.{Home}
use Rattle.dg_model.specs.declared.parents.Parent.{Parent}
use Rattle.dg_model.specs.declared.shapes.Shape.{Shape}
use Rattle.dg_model.specs.declared.wants.NoRoom.{NoRoom}
use Rattle.dg_model.specs.declared.wants.NoRoom.TheVariants.{Inode}
use Rattle.dg_model.specs.declared.wants.Want.{Want}
use Rattle.dg_plan.specs.Folds.{files_placed, strays_placed}
use Rattle.dg_plan.specs.Placings.{placed_of}
use Rattle.dg_plan.specs.Targets.{FitsTargets, homes_of, wants_of}
use Rattle.dg_plan.specs.declared.placings.Placing.{Placing}
use Rattle.dg_plan.specs.declared.target_lists.Targets.{Targets}

-- the files have their homes
pub record HasFiles (wants : List (Option Want)) (parents : List Parent) (homes : List Home) (rooms : List ℕ) (placing : Placing) : Type 0 where
  pub placed : files_placed wants parents homes rooms ≡ Ok (placed_of placing)
  pub size : length placing.rooms.items ≡ length rooms

-- or one of them has no room
abbrev pub FilesGo : List (Option Want) → List Parent → List Home → List ℕ → Result Placing ℕ → Type 0
FilesGo wants parents homes rooms (Ok placing) = HasFiles wants parents homes rooms placing
FilesGo wants parents homes rooms (Err i) = files_placed wants parents homes rooms ≡ Err (Inode i)

-- all blocks have their targets
pub record HasTargets (shape : Shape) (wants : List (Option Want)) (placed : Placed) (targets : Targets) : Type 0 where
  pub scattered : Scattered
  pub rest : strays_placed wants placed.rooms ≡ Ok scattered
  pub same_homes : homes_of targets ≡ placed.homes
  pub same_targets : (b s : ℕ) → wants_of targets b s ≡ targets_of shape wants (record { homes = placed.homes; strays = scattered.places }) b s
  pub fits : FitsTargets shape.n targets
  pub ascend : Ascend (homes_of targets)

-- or one that belongs to nothing has no room
abbrev pub Ends : Shape → List (Option Want) → Placed → Result Targets NoRoom → Type 0
Ends shape wants placed (Ok targets) = HasTargets shape wants placed targets
Ends shape wants placed (Err bad) = strays_placed wants placed.rooms ≡ Err bad
