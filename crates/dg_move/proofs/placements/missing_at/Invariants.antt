use Rattle.std.proofs.Common.{◌≡◌, ◌≤◌}
use Rattle.dg_plan.specs.Targets.{wants_of}
use Rattle.dg_store.specs.Stores.{table_of}
use Rattle.dg_model.specs.Moves.{count_upto, is_missing}
use Rattle.dg_move.proofs.placements.missing_at.Given as goal

abbrev pub invariant-loop-boundary : goal.invariant-loop-boundary
invariant-loop-boundary g l = record {
  count : l.count ≡ count_upto l.boundary (is_missing (wants_of l.targets) (table_of l.store) l.block);
  most : l.count ≤ l.boundary;
}
