use Rattle.std.proofs.Common.{◌≡◌, ◌<◌, ◌≤◌, ℕ, false, length}
use Rattle.std.specs.Prelude.{IfSome}
use Rattle.dg_io.specs.Views.{KeepsView}
use Rattle.ufs_model.specs.Blocks.{Volume, block_at}
use Rattle.ufs_model.specs.GroupMaps.{group_bytes}
use Rattle.ufs_model.specs.Inodes.{inode_block}
use Rattle.ufs_model.specs.Metadata.{IsMetadataBy}
use Rattle.ufs_check.specs.Inodes.{AreInodeFaultsBelow}
use Rattle.ufs_pointer.specs.Fetches.{FetchesOnly}
use Rattle.ufs_check.proofs.inodes.check_inodes.Given as goal

abbrev pub invariant-loop-i : goal.invariant-loop-i
invariant-loop-i g l = record {
  keeps : KeepsView g.V.View.stands_for g.V.View.tells g.V.View.is_gone g.V.View.count g.V.View.size g.V.View.is_sound g.V.View.goes_on l.fn.view l.view;
  levels : l.levels.fragment ≡ g.V.View.size l.fn.view;
  room_group : IfSome l.group (λ c. l.g.bsize ≤ length l.levels.block);
  room_inodes : IfSome l.inodes (λ b. length l.levels.aside ≡ l.g.fsize);
  holds_group : g.V.View.tells l.view → (v : Volume) → g.V.View.stands_for l.fn.view v → IfSome l.group (λ c. l.levels.block ≡ (group_bytes l.g c v).value);
  holds_inodes : g.V.View.tells l.view → (v : Volume) → g.V.View.stands_for l.fn.view v → IfSome l.inodes (λ b. l.levels.aside ≡ block_at l.g.fsize v b);
  found : g.V.View.tells l.view → (v : Volume) → g.V.View.stands_for l.fn.view v → AreInodeFaultsBelow l.g v l.i l.faults;
  held_there : g.V.View.tells l.view → (v : Volume) → g.V.View.stands_for l.fn.view v → IfSome l.inodes (λ b. g.V.View.is_gone l.fn.view b ≡ false);
  there : g.V.View.tells l.view → (v : Volume) → g.V.View.stands_for l.fn.view v → (m : ℕ) → 2 ≤ m → m < l.i → g.V.View.is_gone l.fn.view (inode_block l.g m) ≡ false;
  fetched : FetchesOnly g.V.View.fetched (g.V.View.stands_for l.fn.view) (g.V.View.tells l.view) (IsMetadataBy l.g) l.fn.view l.view;
}
