use Rattle.std.proofs.Common.{◌≡◌, ◌≤◌, false, length, drop}
use Rattle.std.specs.List.{list_any}
use Rattle.ufs_build.specs.Items.{is_slash}
use Rattle.ufs_build.proofs.paths.name_start.Given as goal

abbrev pub invariant-loop-start : goal.invariant-loop-start
invariant-loop-start l = record { some : 1 ≤ l.start; inside : l.start ≤ length l.path; last : list_any is_slash (drop l.start l.path) ≡ false }

abbrev pub decreases-loop-start : goal.decreases-loop-start
decreases-loop-start l = l.start
