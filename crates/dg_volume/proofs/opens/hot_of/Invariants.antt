use Rattle.std.proofs.Common.{◌≡◌, ◌≤◌, drop, length}
use Rattle.dg_volume.proofs.opens.hot_of.Given as goal

abbrev pub invariant-loop-place : goal.invariant-loop-place
invariant-loop-place l = record {
  within : l.place ≤ length l.recent;
  hot : l.hot ≡ drop l.place l.recent;
}

abbrev pub decreases-loop-place : goal.decreases-loop-place
decreases-loop-place l = l.place
