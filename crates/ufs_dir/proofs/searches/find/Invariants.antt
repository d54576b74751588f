use Rattle.std.proofs.Common.{length}
use Rattle.ufs_dir.proofs.SearchLaws.{IsSearched}
use Rattle.ufs_dir.proofs.searches.find.Given as goal

abbrev pub invariant-loop-entry : goal.invariant-loop-entry
invariant-loop-entry l = IsSearched l.fn.endian l.name l.chunk l.first l.entries

abbrev pub decreases-loop-entry : goal.decreases-loop-entry
decreases-loop-entry l = length l.entries.entries
