use Rattle.std.proofs.Common.{◌≡◌, ◌<◌, ℕ, false}
use Rattle.std.specs.Prelude.{Contains}
use Rattle.dg_io.specs.Views.{KeepsView}
use Rattle.ufs_model.specs.Blocks.{Volume}
use Rattle.ufs_model.specs.GroupMaps.{group_bytes}
use Rattle.ufs_model.specs.Metadata.{IsMetadataBy}
use Rattle.ufs_check.specs.Groups.{AreGroupFaultsBelow}
use Rattle.ufs_pointer.specs.Fetches.{FetchesOnly}
use Rattle.ufs_check.proofs.groups.check_groups.Given as goal

abbrev pub invariant-loop-c : goal.invariant-loop-c
invariant-loop-c g l = record {
  keeps : KeepsView g.V.View.stands_for g.V.View.tells g.V.View.is_gone g.V.View.count g.V.View.size g.V.View.is_sound g.V.View.goes_on l.fn.view l.view;
  levels : l.levels.fragment ≡ g.V.View.size l.fn.view;
  found : g.V.View.tells l.view → (v : Volume) → g.V.View.stands_for l.fn.view v → AreGroupFaultsBelow l.g v l.c l.faults;
  there : g.V.View.tells l.view → (v : Volume) → g.V.View.stands_for l.fn.view v → (m b : ℕ) → m < l.c → Contains ((group_bytes l.g m v).needs) b → g.V.View.is_gone l.fn.view b ≡ false;
  fetched : FetchesOnly g.V.View.fetched (g.V.View.stands_for l.fn.view) (g.V.View.tells l.view) (IsMetadataBy l.g) l.fn.view l.view;
}
