use Rattle.std.proofs.Common.{◌≡◌, ◌≤◌, length}
use Rattle.dg_store.specs.Stores.{rack_of, shape_of}
use Rattle.dg_rebuild.specs.Passed.{WentOn}
use Rattle.dg_rebuild.proofs.rebuilds.refill.Given as goal

abbrev pub invariant-loop-slot : goal.invariant-loop-slot
invariant-loop-slot g l = record {
  went : WentOn g.R.Rack l.dead l.boundary l.have l.slot l.done l.fn.reaped.items l.reaped.items l.fn.store l.store;
  few : l.done ≤ l.limit;
  size : length l.buf ≡ (shape_of l.fn.store).l;
  still : l.limit ≡ 0 → rack_of l.store ≡ rack_of l.fn.store;
}
