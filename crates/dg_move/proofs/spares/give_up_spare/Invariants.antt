use Rattle.std.proofs.Common.{◌≡◌, ◌≢◌, ℕ, length}
use Rattle.dg_model.specs.Tables.{sites_in}
use Rattle.dg_plan.specs.Targets.{wants_of}
use Rattle.dg_store.specs.Stores.{table_of}
use Rattle.dg_model.specs.Moves.{all_done, give_ups, spare}
use Rattle.dg_move.specs.Stores.{GivesUpOnly}
use Rattle.dg_move.proofs.spares.give_up_spare.Given as goal

abbrev pub invariant-loop-boundary : goal.invariant-loop-boundary
invariant-loop-boundary g l = record {
  only : GivesUpOnly g.R.Rack (wants_of l.targets) l.fn.store l.store;
  others : (b : ℕ) → b ≢ l.block → sites_in (table_of l.store) b ≡ sites_in (table_of l.fn.store) b;
  goes : all_done (table_of l.store) (give_ups l.block (spare (wants_of l.targets l.block) (sites_in (table_of l.store) l.block)))
      ≡ all_done (table_of l.fn.store) (give_ups l.block (spare (wants_of l.targets l.block) (sites_in (table_of l.fn.store) l.block)));
}

abbrev pub decreases-loop-boundary : goal.decreases-loop-boundary
decreases-loop-boundary g l = length (sites_in (table_of l.store) l.block)
