use Rattle.std.proofs.Common.{◌≡◌, ◌+◌, ◌≤◌}
use Rattle.dg_model.specs.Tables.{used_between}
use Rattle.dg_store.specs.Stores.{table_of}
use Rattle.dg_rebuild.proofs.slots.used_from.Given as goal

abbrev pub invariant-loop-slot : goal.invariant-loop-slot
invariant-loop-slot g l = record {
  counted : l.used ≡ used_between (table_of l.store) l.boundary l.from l.slot;
  few : l.used + l.from ≤ l.slot;
}
