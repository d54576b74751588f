use Rattle.std.proofs.Common.{◌≡◌, List, Ok}
use Rattle.dg_io.specs.ViewWords.{Keeps}
use Rattle.ufs_model.specs.Blocks.{Volume}
use Rattle.ufs_model.specs.Chunks.{DirEntry}
use Rattle.ufs_model.specs.Paths.{entries_before}
use Rattle.ufs_path.specs.Consults.{ConsultsKind}
use Rattle.ufs_path.specs.Parents.{Enters, IsFileRead}
use Rattle.ufs_path.proofs.naming.enter_blocks.Given as goal

abbrev pub invariant-loop-n : goal.invariant-loop-n
invariant-loop-n g l = record {
  keeps : Keeps g.V.View l.fn.view l.view;
  levels : l.levels.fragment ≡ g.V.View.size l.fn.view;
  entered : g.V.View.tells l.view → (v : Volume) → g.V.View.stands_for l.fn.view v → (entries : List DirEntry)
      → (entries_before l.g l.inode l.n v).value ≡ Ok entries → Enters l.g v l.i entries l.fn.table l.table;
  consulted : ConsultsKind g.V.View l.fn.view l.view (g.V.View.stands_for l.fn.view) (IsFileRead l.g l.inode) ⊥;
}
