use Rattle.std.proofs.Common.{◌<◌, ℕ}
use Rattle.dg_model.specs.Wants.{want_of}
use Rattle.dg_placed.specs.Standing.{IsInItsPlace}
use Rattle.dg_placed.proofs.places.are_in_their_places.Given as goal

abbrev pub invariant-loop-block : goal.invariant-loop-block
invariant-loop-block l = (b : ℕ) → b < l.block → IsInItsPlace l.map l.homes l.copies b (want_of l.wants b)
