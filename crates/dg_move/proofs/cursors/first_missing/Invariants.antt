use Rattle.std.proofs.Common.{◌≡◌, ◌<◌, ◌≤◌, ℕ, false}
use Rattle.dg_plan.specs.Targets.{wants_of}
use Rattle.dg_store.specs.Stores.{table_of}
use Rattle.dg_model.specs.Moves.{is_missing}
use Rattle.dg_move.proofs.cursors.first_missing.Given as goal

abbrev pub invariant-loop-block : goal.invariant-loop-block
invariant-loop-block g l = (c : ℕ) → l.from ≤ c → c < l.block → is_missing (wants_of l.targets) (table_of l.store) c l.boundary ≡ false
