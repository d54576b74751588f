use Rattle.std.proofs.Common.{◌≡◌}
use Rattle.dg_store.specs.Stores.{IsSound, shape_of}
use Rattle.dg_store_tests.proofs.refill_tests.refill.Given as goal

abbrev pub invariant-loop : goal.invariant-loop
invariant-loop g l = record {
  sound : IsSound g.R.Rack l.store;
  shape : shape_of l.store ≡ shape_of l.fn.store;
}
