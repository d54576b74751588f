use Rattle.std.proofs.Common.{◌≡◌, map}
use Rattle.std.specs.Map.Iter.{deref_pair}
use Rattle.ufs_path.specs.Parents.{parent_of}
use Rattle.ufs_path.proofs.naming.parents_in.Given as goal

abbrev pub invariant-loop-inode : goal.invariant-loop-inode
invariant-loop-inode l = l.parents.items ≡ map (λ pair. parent_of (deref_pair pair)) l.yielded
