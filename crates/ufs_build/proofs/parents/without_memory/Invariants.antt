use Rattle.std.proofs.Common.{◌≡◌, take, drop}
use Rattle.ufs_build.specs.Items.{parents_after, without_memory}
use Rattle.ufs_build.proofs.parents.without_memory.Given as goal

abbrev pub invariant-loop-k : goal.invariant-loop-k
invariant-loop-k l = record {
  told : without_memory (parents_after (take l.k l.items) (drop l.k l.items)) ≡ without_memory (parents_after (take l.from l.items) (drop l.from l.items));
}
