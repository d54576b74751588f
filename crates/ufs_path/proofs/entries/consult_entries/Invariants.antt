use Rattle.std.proofs.Common.{◌≡◌, List, Some, Ok}
use Rattle.dg_io.specs.Views.{KeepsView}
use Rattle.ufs_model.specs.Chunks.{DirEntry}
use Rattle.ufs_model.specs.Paths.{entries_before}
use Rattle.ufs_model.specs.Readings.{ReadsAs}
use Rattle.ufs_path.specs.Consults.{Consults}
use Rattle.ufs_path.proofs.entries.consult_entries.Given as goal

abbrev pub invariant-loop-n : goal.invariant-loop-n
invariant-loop-n g l = record {
  keeps : KeepsView g.V.View.stands_for g.V.View.tells g.V.View.is_gone g.V.View.count g.V.View.size g.V.View.is_sound g.V.View.goes_on l.fn.view l.view;
  levels : l.levels.fragment ≡ g.V.View.size l.fn.view;
  reads : (entries : List DirEntry) × ReadsAs (g.V.View.stands_for l.fn.view) (g.V.View.is_gone l.fn.view) (g.V.View.tells l.view) (g.V.View.is_gone l.view)
      (entries_before l.g l.inode l.n) (Some (Ok entries));
  consulted : Consults g.V.View l.fn.view l.view (entries_before l.g l.inode l.count) ⊥;
}
