use Rattle.ufs_build.specs.Spaces.{NoneBelow}
use Rattle.ufs_build.proofs.spaces.next_fit.Given as goal

abbrev pub invariant-loop-a : goal.invariant-loop-a
invariant-loop-a l = NoneBelow l.g l.used l.k l.a
