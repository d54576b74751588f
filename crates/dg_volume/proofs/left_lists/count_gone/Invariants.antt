use Rattle.std.proofs.Common.{◌≡◌, ◌≤◌}
use Rattle.dg_model.specs.Moves.{count_upto}
use Rattle.dg_model.specs.Sites.{is_gone}
use Rattle.dg_store.specs.Stores.{members_of, table_of}
use Rattle.dg_volume.proofs.left_lists.count_gone.Given as goal

abbrev pub invariant-loop-block : goal.invariant-loop-block
invariant-loop-block g l = record {
  few : l.count ≤ l.block;
  count_is : l.count ≡ count_upto l.block (is_gone (table_of l.store) (members_of l.store));
}
