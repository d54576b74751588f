use Rattle.dg_store.proofs.EvictionSteps.{IsFewestBelow}
use Rattle.dg_store.proofs.sites.fewest.Given as goal

abbrev pub invariant-loop-boundary : goal.invariant-loop-boundary
invariant-loop-boundary l = IsFewestBelow l.map l.boundary l.fewest
