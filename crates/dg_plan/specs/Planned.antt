-- What the plan gives: targets and new homes.
use Rattle.std.specs.Prelude.{◌≡◌, ◌<◌, ◌≤◌, ◌==◌, ◌↔◌, ℕ, true, List, [], ◌∷◌, Option, Some, None, Ok, IsSome, is_some}
use Rattle.std.specs.List.{list_any}
use Rattle.dg_model.specs.Homes.{Ascend, home_of}
use Rattle.dg_model.specs.Moves.{count_upto}
use Rattle.dg_model.specs.Plans.{Plan, count_of, places_of, plan, targets_of}
use Rattle.dg_model.specs.Wants.{want_of}
use Rattle.dg_model.specs.declared.homes.Home.{Home}
use Rattle.dg_model.specs.declared.parents.Parent.{Parent}
use Rattle.dg_model.specs.declared.shapes.Shape.{Shape}
use Rattle.dg_model.specs.declared.wants.Want.{Want}
use Rattle.dg_model.specs.declared.wants.Want.TheVariants.{Kept, File, Stray}
use Rattle.dg_plan.specs.Targets.{FitsTargets, homes_of, wants_of}
use Rattle.dg_plan.specs.declared.target_lists.Targets.{Targets}

-- the targets and the homes are those of the plan
pub record IsPlanned (shape : Shape) (wants : List (Option Want)) (parents : List Parent) (homes : List Home) (targets : Targets) : Type 0 where
  pub found : Plan
  pub by_plan : plan shape wants parents homes ≡ Ok found
  pub same_homes : homes_of targets ≡ found.homes
  pub same_targets : (b s : ℕ) → wants_of targets b s ≡ targets_of shape wants found b s
  pub fits : FitsTargets shape.n targets

-- block b is to stand on just these boundaries
abbrev pub GoesTo : Targets → ℕ → List ℕ → Type 0
GoesTo targets b boundaries = (s : ℕ) → wants_of targets b s ≡ list_any (λ t. t == s) boundaries

-- What every plan gives: no boundary is the target of more than K blocks; a block of the file system, of a directory or of a long link
-- goes to its m places; all blocks of a file go to the file's new home alone; any other written block goes to one boundary; no
-- other block has a target. Just the files with a written block have new homes, which ascend and are boundaries of the array.
pub record KeepsRules (shape : Shape) (wants : List (Option Want)) (targets : Targets) : Type 0 where
  pub most : (s : ℕ) → s < shape.b → count_upto shape.n (λ b. wants_of targets b s) ≤ shape.k
  pub kept : (b : ℕ) → want_of wants b ≡ Some Kept → GoesTo targets b (places_of shape b)
  pub file : (b i : ℕ) → want_of wants b ≡ Some (File i) → (s : ℕ) × (home_of (homes_of targets) i ≡ Some s) × GoesTo targets b (s ∷ [])
  pub stray : (b : ℕ) → want_of wants b ≡ Some Stray → (s : ℕ) × GoesTo targets b (s ∷ [])
  pub none : (b : ℕ) → want_of wants b ≡ None → GoesTo targets b []
  pub some : (b : ℕ) → is_some (want_of wants b) ≡ true → (s : ℕ) × (s < shape.b) × (wants_of targets b s ≡ true)
  pub within : (b s : ℕ) → wants_of targets b s ≡ true → s < shape.b
  pub homes_are : (i : ℕ) → IsSome (home_of (homes_of targets) i) ↔ (0 < count_of wants i)
  pub homes_within : (i s : ℕ) → home_of (homes_of targets) i ≡ Some s → s < shape.b
  pub ascend : Ascend (homes_of targets)
