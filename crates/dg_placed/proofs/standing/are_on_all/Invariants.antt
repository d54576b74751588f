use Rattle.std.proofs.Common.{◌≡◌, ◌<◌, ℕ, true, get_or}
use Rattle.dg_model.specs.Tables.{stands_on}
use Rattle.dg_placed.proofs.standing.are_on_all.Given as goal

abbrev pub invariant-loop-boundary : goal.invariant-loop-boundary
invariant-loop-boundary l = (k : ℕ) → k < l.boundary-index → stands_on (get_or l.boundaries k 0) l.sites ≡ true
