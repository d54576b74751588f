use Rattle.std.proofs.Common.{◌≡◌, List, Some, Ok, map}
use Rattle.dg_io.specs.ViewWords.{Keeps, Reads}
use Rattle.ufs_model.specs.Chunks.{DirEntry}
use Rattle.ufs_model.specs.Paths.{entries_before}
use Rattle.ufs_path.specs.Consults.{Consults}
use Rattle.ufs_path.specs.Trees.{branch_of, branches_at}
use Rattle.ufs_path.proofs.branches.read_branches.Given as goal

abbrev pub invariant-loop-n : goal.invariant-loop-n
invariant-loop-n g l = record {
  keeps : Keeps g.V.View l.fn.view l.view;
  levels : l.levels.fragment ≡ g.V.View.size l.fn.view;
  reads : (entries : List DirEntry) × (map branch_of l.kept.items ≡ branches_at l.depth entries)
      × Reads g.V.View l.fn.view l.view (entries_before l.g l.inode l.n) (Some (Ok entries));
  consulted : Consults g.V.View l.fn.view l.view (entries_before l.g l.inode l.count) ⊥;
}
