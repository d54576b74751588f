use Rattle.std.proofs.Common.{◌≡◌, ℕ, take}
use Rattle.dg_model.specs.Moves.{all_done}
use Rattle.dg_store.specs.Stores.{members_of, rack_of, table_of}
use Rattle.dg_hot.specs.Copied.{give_ups_on}
use Rattle.dg_hot.specs.Spreads.{Moved}
use Rattle.dg_hot.proofs.copies.give_up.Given as goal

abbrev pub invariant-loop-place : goal.invariant-loop-place
invariant-loop-place g l = record {
  moved : Moved g.R.Rack l.fn.store l.store;
  rack : rack_of l.store ≡ rack_of l.fn.store;
  members : (q : ℕ) → members_of l.store q ≡ members_of l.fn.store q;
  table : table_of l.store ≡ all_done (table_of l.fn.store) (give_ups_on l.boundary (take l.place l.blocks));
}
