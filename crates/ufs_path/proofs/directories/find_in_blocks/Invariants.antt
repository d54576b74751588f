use Rattle.std.proofs.Common.{◌≡◌, ◌-◌}
use Rattle.dg_io.specs.Views.{KeepsView}
use Rattle.ufs_model.specs.Paths.{find_from}
use Rattle.ufs_model.specs.Readings.{Continues}
use Rattle.ufs_path.specs.Consults.{Consults, Leads}
use Rattle.ufs_path.proofs.directories.find_in_blocks.Given as goal

abbrev pub invariant-loop-n : goal.invariant-loop-n
invariant-loop-n g l = record {
  keeps : KeepsView g.V.View.stands_for g.V.View.tells g.V.View.is_gone g.V.View.count g.V.View.size g.V.View.is_sound g.V.View.goes_on l.initial.view l.view;
  levels : l.levels.fragment ≡ g.V.View.size l.initial.view;
  rest : Continues (g.V.View.stands_for l.initial.view) (g.V.View.is_gone l.initial.view) (g.V.View.tells l.view) (g.V.View.is_gone l.view)
      (find_from l.g l.inode l.name 0 l.count) (find_from l.g l.inode l.name l.n (l.count - l.n));
  consulted : Consults g.V.View l.initial.view l.view (find_from l.g l.inode l.name 0 l.count) ⊥;
  leads : Leads (g.V.View.stands_for l.initial.view) (g.V.View.tells l.view) (find_from l.g l.inode l.name 0 l.count) (find_from l.g l.inode l.name l.n (l.count - l.n));
}
