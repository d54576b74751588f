use Rattle.std.proofs.Common.{◌≡◌}
use Rattle.dg_io.specs.ViewWords.{Keeps}
use Rattle.ufs_path.proofs.GrowLaws.{Grew}
use Rattle.ufs_path.specs.Consults.{Consults}
use Rattle.ufs_path.specs.Trees.{all_lines, left_on}
use Rattle.ufs_path.proofs.trees.walk_stack.Given as goal

abbrev pub invariant-loop-given : goal.invariant-loop-given
invariant-loop-given g l = record {
  keeps : Keeps g.V.View l.fn.view l.view;
  levels : l.levels.fragment ≡ g.V.View.size l.fn.view;
  grew : Grew g.O.Listing.took g.O.Listing.faults l.fn.out l.out (g.V.View.stands_for l.fn.view) (g.V.View.is_gone l.fn.view) (g.V.View.tells l.view) (g.V.View.is_gone l.view)
      (all_lines l.g (left_on l.fn.entries.items)) (all_lines l.g (left_on l.stack.items)) l.given;
  consulted : Consults g.V.View l.fn.view l.view (all_lines l.g (left_on l.fn.entries.items)) ⊥;
}
