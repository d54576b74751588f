use Rattle.std.proofs.Common.{◌≡◌, ◌++◌, List, length}
use Rattle.ufs_model.specs.Chunks.{DirEntry, entries_in, used_entries}
use Rattle.ufs_path.specs.Parents.{AddsEntries, kept_in}
use Rattle.ufs_path.proofs.naming.add_chunk.Given as goal

abbrev pub invariant-loop-entry : goal.invariant-loop-entry
invariant-loop-entry l =
    (done : List DirEntry) × (used_entries (entries_in l.fn.endian 0 l.chunk) ≡ done ++ used_entries l.entries.entries)
    × AddsEntries l.i done (kept_in l.fn.directories) (kept_in l.directories)

abbrev pub decreases-loop-entry : goal.decreases-loop-entry
decreases-loop-entry l = length l.entries.entries
