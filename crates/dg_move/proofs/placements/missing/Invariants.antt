use Rattle.std.proofs.Common.{◌≡◌, ◌≤◌, ◌*◌}
use Rattle.dg_plan.specs.Targets.{wants_of}
use Rattle.dg_store.specs.Stores.{shape_of, table_of}
use Rattle.dg_model.specs.Moves.{count_upto, is_missing, sum_upto}
use Rattle.dg_move.proofs.placements.missing.Given as goal

abbrev pub invariant-loop-block : goal.invariant-loop-block
invariant-loop-block g l = record {
  count : l.count ≡ sum_upto l.block (λ b. count_upto (shape_of l.store).b (is_missing (wants_of l.targets) (table_of l.store) b));
  most : l.count ≤ 16 * l.block;
}
