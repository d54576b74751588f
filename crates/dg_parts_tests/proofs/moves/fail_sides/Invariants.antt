use Rattle.std.proofs.Common.{◌≡◌}
use Rattle.dg_store.specs.Stores.{IsSound, shape_of}
use Rattle.dg_parts_tests.proofs.moves.fail_sides.Given as goal

abbrev pub invariant-loop-boundary : goal.invariant-loop-boundary
invariant-loop-boundary g l = record {
  sound : IsSound g.R.Rack l.store;
  shape : shape_of l.store ≡ shape_of l.fn.store;
}
