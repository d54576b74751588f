use Rattle.std.proofs.Common.{◌≡◌, ◌+◌, ◌%◌, ◌<◌, ℕ, length, get_or}
use Rattle.dg_placed.proofs.standing.places_of.Given as goal

abbrev pub invariant-loop-place : goal.invariant-loop-place
invariant-loop-place l = (length l.places ≡ 16) × ((k : ℕ) → k < l.place → get_or l.places k 0 ≡ (l.block + k) % l.shape.b)
