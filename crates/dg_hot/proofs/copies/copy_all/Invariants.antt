use Rattle.std.proofs.Common.{◌≡◌, take}
use Rattle.dg_model.specs.Moves.{all_done}
use Rattle.dg_store.specs.Leaves.{CallsAtMost}
use Rattle.dg_store.specs.Stores.{table_of}
use Rattle.dg_hot.specs.Copied.{copies_to}
use Rattle.dg_hot.specs.Spreads.{Moved, copy_calls}
use Rattle.dg_hot.proofs.copies.copy_all.Given as goal

abbrev pub invariant-loop-place : goal.invariant-loop-place
invariant-loop-place g l = record {
  moved : Moved g.R.Rack l.fn.store l.store;
  table : table_of l.store ≡ all_done (table_of l.fn.store) (copies_to l.boundary (take l.place l.blocks));
  most : CallsAtMost g.R.Rack l.fn.store l.store (copy_calls (table_of l.fn.store) l.place);
}
