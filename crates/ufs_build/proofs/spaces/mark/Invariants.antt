use Rattle.std.proofs.Common.{◌≡◌}
use Rattle.ufs_build.specs.Placements.{marked}
use Rattle.ufs_build.proofs.spaces.mark.Given as goal

abbrev pub invariant-loop-i : goal.invariant-loop-i
invariant-loop-i l = l.used.items ≡ marked l.initial.used.items l.a l.i
