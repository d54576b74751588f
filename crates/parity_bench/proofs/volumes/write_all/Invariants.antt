use Rattle.std.proofs.Common.{◌≡◌}
use Rattle.dg_store.specs.Stores.{IsSound, shape_of}
use Rattle.parity_bench.proofs.volumes.write_all.Given as goal

abbrev pub invariant-loop : goal.invariant-loop
invariant-loop g l = IsSound g.R.Rack l.store × (shape_of l.store ≡ shape_of l.fn.store)
