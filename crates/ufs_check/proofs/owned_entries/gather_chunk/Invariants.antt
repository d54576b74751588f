use Rattle.std.proofs.Common.{◌≡◌, length}
use Rattle.dg_io.specs.Views.{KeepsView}
use Rattle.ufs_model.specs.Blocks.{Volume}
use Rattle.ufs_model.specs.Chunks.{entries_in, fault_in, used_entries}
use Rattle.ufs_model.specs.Metadata.{IsMetadataBy}
use Rattle.ufs_check.specs.OwnedEntries.{Completes}
use Rattle.ufs_pointer.specs.Fetches.{FetchesOnly}
use Rattle.ufs_check.proofs.owned_entries.gather_chunk.Given as goal

abbrev pub invariant-loop-entry : goal.invariant-loop-entry
invariant-loop-entry g l = record {
  keeps : KeepsView g.V.View.stands_for g.V.View.tells g.V.View.is_gone g.V.View.count g.V.View.size g.V.View.is_sound g.V.View.goes_on l.fn.view l.view;
  levels : l.levels.fragment ≡ l.fn.levels.fragment;
  block : l.levels.block ≡ l.fn.levels.block;
  whole : l.walk.fault ≡ fault_in l.g.endian 0 l.chunk;
  found : g.V.View.tells l.view → (v : Volume) → g.V.View.stands_for l.fn.view v
      → Completes l.g v (used_entries (entries_in l.g.endian 0 l.chunk)) (used_entries l.walk.entries) l.fn.entries.items l.entries.items;
  fetched : FetchesOnly g.V.View.fetched (g.V.View.stands_for l.fn.view) (g.V.View.tells l.view) (IsMetadataBy l.g) l.fn.view l.view;
}

abbrev pub decreases-loop-entry : goal.decreases-loop-entry
decreases-loop-entry g l = length l.walk.entries
