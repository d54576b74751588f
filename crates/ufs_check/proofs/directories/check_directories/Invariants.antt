use Rattle.std.proofs.Common.{◌≡◌, ◌<◌, ℕ, false}
use Rattle.dg_io.specs.Views.{KeepsView}
use Rattle.ufs_model.specs.Blocks.{Volume}
use Rattle.ufs_check.specs.Directories.{IsDirectoryRead}
use Rattle.ufs_check.specs.Links.{AreLinksBelow}
use Rattle.ufs_check.specs.Needs.{IsBlockIn}
use Rattle.ufs_pointer.specs.Fetches.{FetchesOnly}
use Rattle.ufs_check.proofs.directories.check_directories.Given as goal

abbrev pub invariant-loop-i : goal.invariant-loop-i
invariant-loop-i g l = record {
  keeps : KeepsView g.V.View.stands_for g.V.View.tells g.V.View.is_gone g.V.View.count g.V.View.size g.V.View.is_sound g.V.View.goes_on l.fn.view l.view;
  levels : l.levels.fragment ≡ g.V.View.size l.fn.view;
  found : g.V.View.tells l.view → (v : Volume) → g.V.View.stands_for l.fn.view v → AreLinksBelow l.g v l.i l.table l.faults;
  there : g.V.View.tells l.view → (v : Volume) → g.V.View.stands_for l.fn.view v → (m b : ℕ) → m < l.i → IsBlockIn l.g m v b → g.V.View.is_gone l.fn.view b ≡ false;
  fetched : FetchesOnly g.V.View.fetched (g.V.View.stands_for l.fn.view) (g.V.View.tells l.view) (IsDirectoryRead l.g) l.fn.view l.view;
}
