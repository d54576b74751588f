use Rattle.std.proofs.Common.{◌≡◌, ◌+◌, true}
use Rattle.ufs_model.specs.Numbers.{all_below}
use Rattle.ufs_model.specs.Roles.{is_data_of, role}
use Rattle.ufs_super.proofs.runs.is_data_run.Given as goal

abbrev pub invariant-loop-i : goal.invariant-loop-i
invariant-loop-i l = all_below (λ i. is_data_of l.c (role l.g (l.a + i))) l.i ≡ true
