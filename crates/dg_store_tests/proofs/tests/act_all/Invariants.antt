use Rattle.std.proofs.Common.{◌≡◌}
use Rattle.dg_store.specs.Stores.{IsSound, shape_of}
use Rattle.dg_store_tests.proofs.tests.act_all.Given as goal

abbrev pub invariant-loop-step : goal.invariant-loop-step
invariant-loop-step g l = record {
  sound : IsSound g.R.Rack l.store;
  shape : shape_of l.store ≡ shape_of l.fn.store;
}
