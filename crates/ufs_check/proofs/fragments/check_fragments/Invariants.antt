use Rattle.std.proofs.Common.{◌≡◌, ℕ, ◌<◌, ◌≤◌, false, length}
use Rattle.std.specs.Prelude.{IfSome}
use Rattle.dg_io.specs.Views.{KeepsView}
use Rattle.ufs_model.specs.Blocks.{Volume, block_at}
use Rattle.ufs_model.specs.GroupMaps.{group_bytes}
use Rattle.ufs_model.specs.Metadata.{IsMetadataBy}
use Rattle.dg_claims.specs.Kept.{table_of}
use Rattle.ufs_check.specs.Fragments.{AreFragmentFaultsBelow, IsClaimedBy, IsUpperIn}
use Rattle.ufs_pointer.specs.Fetches.{FetchesOnly}
use Rattle.ufs_check.proofs.fragments.check_fragments.Given as goal

abbrev pub invariant-loop-f : goal.invariant-loop-f
invariant-loop-f g l = record {
  keeps : KeepsView g.V.View.stands_for g.V.View.tells g.V.View.is_gone g.V.View.count g.V.View.size g.V.View.is_sound g.V.View.goes_on l.fn.view l.view;
  levels : l.levels.fragment ≡ g.V.View.size l.fn.view;
  room_group : IfSome l.group (λ c. l.g.bsize ≤ length l.levels.block);
  holds_group : g.V.View.tells l.view → (v : Volume) → g.V.View.stands_for l.fn.view v → IfSome l.group (λ c. l.levels.block ≡ (group_bytes l.g c v).value);
  found : g.V.View.tells l.view → (v : Volume) → IsClaimedBy (g.V.View.stands_for l.fn.view) l.g (table_of l.claims) v → AreFragmentFaultsBelow l.g v l.f l.faults;
  whole : g.V.View.tells l.view → (v : Volume) → g.V.View.stands_for l.fn.view v → (m : ℕ) → m < l.f → IsUpperIn (table_of l.claims) m → length (block_at l.g.fsize v m) ≡ l.g.fsize;
  there : g.V.View.tells l.view → (v : Volume) → g.V.View.stands_for l.fn.view v → (m : ℕ) → m < l.f → IsUpperIn (table_of l.claims) m → g.V.View.is_gone l.fn.view m ≡ false;
  fetched : FetchesOnly g.V.View.fetched (IsClaimedBy (g.V.View.stands_for l.fn.view) l.g (table_of l.claims)) (g.V.View.tells l.view) (IsMetadataBy l.g) l.fn.view l.view;
}
