use Rattle.std.proofs.Common.{◌≡◌}
use Rattle.dg_io.specs.ViewWords.{Keeps}
use Rattle.ufs_model.specs.Blocks.{Volume}
use Rattle.ufs_path.specs.Consults.{ConsultsKind}
use Rattle.ufs_path.specs.Parents.{FitsTable, IsParentRead}
use Rattle.ufs_path.proofs.naming.parents_below.Given as goal

abbrev pub invariant-loop-i : goal.invariant-loop-i
invariant-loop-i g l = record {
  keeps : Keeps g.V.View l.fn.view l.view;
  levels : l.levels.fragment ≡ g.V.View.size l.fn.view;
  fits : g.V.View.tells l.view → (v : Volume) → g.V.View.stands_for l.fn.view v → FitsTable l.g v l.i l.table;
  consulted : ConsultsKind g.V.View l.fn.view l.view (g.V.View.stands_for l.fn.view) (IsParentRead l.g) ⊥;
}
