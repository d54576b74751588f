use Rattle.std.proofs.Common.{◌≢◌, take}
use Rattle.std.specs.List.{AllPairs}
use Rattle.dg_save.proofs.checks.are_distinct.Given as goal

abbrev pub invariant-loop-place : goal.invariant-loop-place
invariant-loop-place l = AllPairs (λ i j. i ≢ j) (take l.place l.inodes)
