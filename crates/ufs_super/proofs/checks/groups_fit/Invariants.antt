use Rattle.std.proofs.Common.{◌≡◌, true}
use Rattle.ufs_model.specs.Numbers.{all_below}
use Rattle.ufs_model.specs.Superblocks.{group_fits}
use Rattle.ufs_super.proofs.checks.groups_fit.Given as goal

abbrev pub invariant-loop-c : goal.invariant-loop-c
invariant-loop-c l = all_below (group_fits l.g) l.c ≡ true
