use Rattle.std.proofs.Common.{◌≡◌, ◌<◌, ◌≤◌, ℕ, []}
use Rattle.dg_model.specs.Tables.{sites_in}
use Rattle.dg_plan.specs.Targets.{wants_of}
use Rattle.dg_store.specs.Stores.{table_of}
use Rattle.dg_model.specs.Moves.{all_done, spare}
use Rattle.dg_model.proofs.ActionLists.{tidying_below}
use Rattle.dg_move.specs.Stores.{GivesUpOnly}
use Rattle.dg_move.proofs.spares.tidy.Given as goal

abbrev pub invariant-loop-block : goal.invariant-loop-block
invariant-loop-block g l = record {
  only : GivesUpOnly g.R.Rack (wants_of l.targets) l.fn.store l.store;
  acts : table_of l.store ≡ all_done (table_of l.fn.store) (tidying_below (wants_of l.targets) (table_of l.fn.store) l.block);
  above : (b : ℕ) → l.block ≤ b → sites_in (table_of l.store) b ≡ sites_in (table_of l.fn.store) b;
  below : (b : ℕ) → b < l.block → spare (wants_of l.targets b) (sites_in (table_of l.store) b) ≡ [];
}
