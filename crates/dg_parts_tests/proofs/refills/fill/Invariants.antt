use Rattle.std.proofs.Common.{◌≡◌}
use Rattle.dg_store.specs.Stores.{IsSound, shape_of}
use Rattle.dg_parts_tests.proofs.refills.fill.Given as goal

abbrev pub invariant-loop-number : goal.invariant-loop-number
invariant-loop-number g l = record {
  sound : IsSound g.R.Rack l.store;
  shape : shape_of l.store ≡ shape_of l.fn.store;
}
