use Rattle.std.proofs.Common.{◌≡◌, ◌*◌, ◌≤◌, min, ℕ, List, length, Some, Ok}
use Rattle.dg_io.specs.Views.{KeepsView}
use Rattle.ufs_model.specs.Paths.{front_of}
use Rattle.ufs_model.specs.Readings.{ReadsAs}
use Rattle.ufs_path.specs.Consults.{Consults}
use Rattle.ufs_path.proofs.files.hand_on.Given as goal

abbrev pub invariant-loop-n : goal.invariant-loop-n
invariant-loop-n g l = record {
  keeps : KeepsView g.V.View.stands_for g.V.View.tells g.V.View.is_gone g.V.View.count g.V.View.size g.V.View.is_sound g.V.View.goes_on l.fn.view l.view;
  levels : l.levels.fragment ≡ g.V.View.size l.fn.view;
  later : g.O.Pieces.faults l.fn.out ≤ g.O.Pieces.faults l.out;
  given : l.given ≡ min (l.n * l.g.bsize) l.inode.size;
  handed : (front : List ℕ) × (length front ≡ l.given) × g.O.Pieces.took l.fn.out front l.out
      × ReadsAs (g.V.View.stands_for l.fn.view) (g.V.View.is_gone l.fn.view) (g.V.View.tells l.view) (g.V.View.is_gone l.view)
      (front_of l.g l.inode l.n) (Some (Ok front));
  consulted : Consults g.V.View l.fn.view l.view (front_of l.g l.inode l.count) ⊥;
  stays : g.O.Pieces.faults l.out ≡ g.O.Pieces.faults l.fn.out;
}
