use Rattle.std.proofs.Common.{◌≡◌, ◌++◌, ◌+◌, drop}
use Rattle.ufs_build.specs.Directories.{directory_entries, entries_from}
use Rattle.ufs_build.specs.Entries.{entries_in}
use Rattle.ufs_build.proofs.directories.directory_entries.Given as goal

abbrev pub invariant-loop-k : goal.invariant-loop-k
invariant-loop-k l =
    entries_in l.entries.items ++ entries_from l.directory (l.k + 3) (drop l.k l.items) (drop l.k l.parents) ≡ directory_entries l.items l.parents l.directory l.up
