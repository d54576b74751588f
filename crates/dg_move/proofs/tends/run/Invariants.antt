use Rattle.std.proofs.Common.{◌≡◌, ◌+◌, false}
use Rattle.dg_model.specs.Moves.{IsTidy, missing_in}
use Rattle.dg_model.specs.States.{has_lost}
use Rattle.dg_plan.specs.Targets.{wants_of}
use Rattle.dg_store.specs.Leaves.{CallsAtMost}
use Rattle.dg_store.specs.Stores.{members_of, rack_of, shape_of, table_of}
use Rattle.dg_move.specs.Cursors.{AreCursors}
use Rattle.dg_move.specs.Stores.{MovesOn, copy_calls}
use Rattle.dg_move.specs.Turns.{IsTurned}
use Rattle.dg_move.proofs.tends.run.Given as goal

abbrev pub invariant-turns : goal.invariant-turns
invariant-turns g l = record {
  on : MovesOn g.R.Rack (wants_of l.targets) l.fn.store l.store;
  turned : IsTurned (wants_of l.targets) l.rounds l._moved (table_of l.fn.store) (table_of l.store);
  tidy : IsTidy (wants_of l.targets) (table_of l.store);
  left : missing_in (wants_of l.targets) (table_of l.store) + l._moved ≡ missing_in (wants_of l.targets) (table_of l.fn.store);
  cursors : AreCursors (wants_of l.targets) (table_of l.store) l.next;
  live : has_lost (shape_of l.store) (members_of l.store) ≡ false;
  still : l._moved ≡ 0 → rack_of l.store ≡ rack_of l.fn.store;
  most : CallsAtMost g.R.Rack l.fn.store l.store (copy_calls (table_of l.fn.store) l._moved);
}
