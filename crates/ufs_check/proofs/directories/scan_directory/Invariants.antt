use Rattle.std.proofs.Common.{◌≡◌, ◌-◌, ◌≤◌, ℕ, false}
use Rattle.dg_io.specs.Views.{KeepsView}
use Rattle.ufs_model.specs.Blocks.{Volume}
use Rattle.ufs_check.specs.Directories.{IsFileRead, ScannedBelow}
use Rattle.ufs_check.specs.Needs.{IsBytesBlock}
use Rattle.ufs_pointer.specs.Fetches.{FetchesOnly}
use Rattle.ufs_check.proofs.directories.scan_directory.Given as goal

abbrev pub invariant-loop-n : goal.invariant-loop-n
invariant-loop-n g l = record {
  keeps : KeepsView g.V.View.stands_for g.V.View.tells g.V.View.is_gone g.V.View.count g.V.View.size g.V.View.is_sound g.V.View.goes_on l.fn.view l.view;
  within : l.n ≤ l.count;
  levels : l.levels.fragment ≡ g.V.View.size l.fn.view;
  found : g.V.View.tells l.view → (v : Volume) → g.V.View.stands_for l.fn.view v → ScannedBelow l.g l.inode v l.n l.scan;
  there : g.V.View.tells l.view → (v : Volume) → g.V.View.stands_for l.fn.view v → (b : ℕ) → IsBytesBlock l.g l.inode 0 l.n v b → g.V.View.is_gone l.fn.view b ≡ false;
  fetched : FetchesOnly g.V.View.fetched (g.V.View.stands_for l.fn.view) (g.V.View.tells l.view) (IsFileRead l.g l.inode) l.fn.view l.view;
}

abbrev pub decreases-loop-n : goal.decreases-loop-n
decreases-loop-n g l = l.count - l.n
