use Rattle.std.proofs.Common.{◌≡◌, ◌+◌, not, true}
use Rattle.ufs_model.specs.Numbers.{all_below}
use Rattle.ufs_build.specs.Placements.{is_used}
use Rattle.ufs_build.proofs.spaces.are_free.Given as goal

abbrev pub invariant-loop-i : goal.invariant-loop-i
invariant-loop-i l = all_below (λ i. not (is_used l.used (l.a + i))) l.i ≡ true
