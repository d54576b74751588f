use Rattle.std.proofs.Common.{◌≡◌}
use Rattle.dg_io.specs.Views.{KeepsView}
use Rattle.ufs_audit.specs.Holders.{AreMarks}
use Rattle.ufs_audit.specs.Structures.{IsDirectoryOf}
use Rattle.ufs_model.specs.Blocks.{Volume}
use Rattle.ufs_model.specs.Metadata.{IsMetadataBy}
use Rattle.ufs_pointer.specs.Fetches.{FetchesOnly}
use Rattle.ufs_audit.proofs.directories.find_directories.Given as goal

abbrev pub invariant-loop-number : goal.invariant-loop-number
invariant-loop-number g l = record {
  keeps : KeepsView g.V.View.stands_for g.V.View.tells g.V.View.is_gone g.V.View.count g.V.View.size g.V.View.is_sound g.V.View.goes_on l.fn.view l.view;
  levels : l.levels.fragment ≡ g.V.View.size l.fn.view;
  found : g.V.View.tells l.view → (v : Volume) → g.V.View.stands_for l.fn.view v → AreMarks (IsDirectoryOf l.g v) l.number l.marks.items;
  fetched : FetchesOnly g.V.View.fetched (g.V.View.stands_for l.fn.view) (g.V.View.tells l.view) (IsMetadataBy l.g) l.fn.view l.view;
}
