use Rattle.std.proofs.Common.{◌≡◌, length}
use Rattle.dg_io.specs.Views.{KeepsView}
use Rattle.ufs_model.specs.Paths.{look_from, names_after}
use Rattle.ufs_model.specs.Readings.{Continues}
use Rattle.ufs_path.specs.Consults.{Consults, Leads}
use Rattle.ufs_path.proofs.looks.follow_names.Given as goal

abbrev pub invariant-loop-rest : goal.invariant-loop-rest
invariant-loop-rest g l = record {
  keeps : KeepsView g.V.View.stands_for g.V.View.tells g.V.View.is_gone g.V.View.count g.V.View.size g.V.View.is_sound g.V.View.goes_on l.initial.view l.view;
  levels : l.levels.fragment ≡ g.V.View.size l.initial.view;
  rest : Continues (g.V.View.stands_for l.initial.view) (g.V.View.is_gone l.initial.view) (g.V.View.tells l.view) (g.V.View.is_gone l.view)
      (look_from l.g (names_after l.path) 2) (look_from l.g (names_after l.rest) l.number);
  consulted : Consults g.V.View l.initial.view l.view (look_from l.g (names_after l.path) 2) ⊥;
  leads : Leads (g.V.View.stands_for l.initial.view) (g.V.View.tells l.view) (look_from l.g (names_after l.path) 2) (look_from l.g (names_after l.rest) l.number);
}

abbrev pub decreases-loop-rest : goal.decreases-loop-rest
decreases-loop-rest g l = length l.rest
