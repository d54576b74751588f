use Rattle.std.proofs.Common.{◌≡◌, ◌-◌, ◌*◌, drop, false}
use Rattle.std.specs.List.{list_any}
use Rattle.dg_io.specs.Views.{KeepsView}
use Rattle.ufs_model.specs.Blocks.{Volume}
use Rattle.ufs_model.specs.Metadata.{IsMetadataBy}
use Rattle.ufs_model.specs.Paths.{chunks_in}
use Rattle.ufs_check.specs.Entries.{entries_all, is_refused}
use Rattle.ufs_check.specs.OwnedEntries.{Completes}
use Rattle.ufs_pointer.specs.Fetches.{FetchesOnly}
use Rattle.ufs_check.proofs.owned_entries.gather_chunks.Given as goal

abbrev pub invariant-loop-i : goal.invariant-loop-i
invariant-loop-i g l = record {
  keeps : KeepsView g.V.View.stands_for g.V.View.tells g.V.View.is_gone g.V.View.count g.V.View.size g.V.View.is_sound g.V.View.goes_on l.fn.view l.view;
  levels : l.levels.fragment ≡ l.fn.levels.fragment;
  block : l.levels.block ≡ l.fn.levels.block;
  whole : list_any (is_refused l.g.endian) (chunks_in (l.count - l.i) (drop (l.i * 512) l.fn.levels.block)) ≡ false;
  found : g.V.View.tells l.view → (v : Volume) → g.V.View.stands_for l.fn.view v
      → Completes l.g v (entries_all l.g.endian (chunks_in l.count l.fn.levels.block)) (entries_all l.g.endian (chunks_in (l.count - l.i) (drop (l.i * 512) l.fn.levels.block)))
      l.fn.entries.items l.entries.items;
  fetched : FetchesOnly g.V.View.fetched (g.V.View.stands_for l.fn.view) (g.V.View.tells l.view) (IsMetadataBy l.g) l.fn.view l.view;
}
