use Rattle.std.proofs.Common.{◌≡◌, ◌++◌, List, length}
use Rattle.ufs_model.specs.Chunks.{DirEntry, entries_in, used_entries}
use Rattle.ufs_path.specs.Trees.{AddsBranches}
use Rattle.ufs_path.proofs.branches.push_chunk.Given as goal

abbrev pub invariant-loop-entry : goal.invariant-loop-entry
invariant-loop-entry l =
    (done : List DirEntry) × (used_entries (entries_in l.fn.endian 0 l.chunk) ≡ done ++ used_entries l.entries.entries)
    × AddsBranches l.depth done l.fn.kept.items l.kept.items

abbrev pub decreases-loop-entry : goal.decreases-loop-entry
decreases-loop-entry l = length l.entries.entries
