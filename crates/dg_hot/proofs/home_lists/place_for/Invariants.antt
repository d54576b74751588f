use Rattle.std.proofs.Common.{◌≤◌, ◌<◌, ℕ, get_or}
use Rattle.dg_hot.proofs.home_lists.place_for.Given as goal

abbrev pub invariant-loop-place : goal.invariant-loop-place
invariant-loop-place l = (k : ℕ) → k < l.place → (get_or l.homes k l.home).inode ≤ l.home.inode
