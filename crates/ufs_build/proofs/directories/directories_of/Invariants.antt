use Rattle.std.proofs.Common.{◌≡◌, ◌++◌, ◌+◌, drop}
use Rattle.ufs_build.specs.Directories.{directories_from, directories_of}
use Rattle.ufs_build.proofs.directories.directories_of.Given as goal

abbrev pub invariant-loop-k : goal.invariant-loop-k
invariant-loop-k l =
    l.directories.items ++ directories_from l.endian l.items l.parents (l.k + 3) (drop l.k l.items) (drop l.k l.parents) ≡ directories_of l.endian l.items l.parents
