use Rattle.std.proofs.Common.{length}
use Rattle.std.specs.List.{sum_by}
use Rattle.dg_store.proofs.EvictionSteps.{HasEvicted}
use Rattle.dg_store.proofs.sites.make_room.Given as goal

abbrev pub invariant-loop-boundary : goal.invariant-loop-boundary
invariant-loop-boundary l = HasEvicted l.fn.map l.given_up.items l.map

abbrev pub decreases-loop-boundary : goal.decreases-loop-boundary
decreases-loop-boundary l = sum_by length l.map.rows
