use Rattle.std.proofs.Common.{◌≡◌, ◌++◌, map, vec_len}
use Rattle.ufs_path.specs.Trees.{branch_of, left_on}
use Rattle.ufs_path.proofs.branches.put_on.Given as goal

abbrev pub invariant-loop-last : goal.invariant-loop-last
invariant-loop-last l = map branch_of l.kept.items ++ left_on l.stack.items ≡ map branch_of l.fn.entries.items ++ left_on l.fn.stack.items

abbrev pub decreases-loop-last : goal.decreases-loop-last
decreases-loop-last l = vec_len l.kept
