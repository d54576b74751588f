use Rattle.std.proofs.Common.{◌≡◌, ◌<◌, ◌≤◌, ℕ, List, [], IfSome, false, length}
use Rattle.dg_io.specs.ViewWords.{Keeps}
use Rattle.ufs_model.specs.Claims.{source_fragments}
use Rattle.ufs_model.specs.Inodes.{inode_block}
use Rattle.ufs_model.specs.declared.claims.ClaimSource.TheVariants.{Slot, Pointer}
use Rattle.dg_claims.specs.Kept.{claimed_by}
use Rattle.ufs_pointer.specs.ViewWords.{FetchesKind}
use Rattle.dg_claims.specs.Scans.{HasInode, HoldsIn}
use Rattle.dg_claims.proofs.inodes.scan_inodes.Given as goal

abbrev pub invariant-loop-number : goal.invariant-loop-number
invariant-loop-number g l = record {
  keeps : Keeps g.V.View l.fn.view l.view;
  levels : l.levels.fragment ≡ l.fn.levels.fragment;
  geometry : l.claims.geometry ≡ l.fn.claims.geometry;
  room : IfSome l.held (λ b. length l.levels.aside ≡ g.V.View.size l.fn.view);
  later : (number slot : ℕ) → l.number ≤ number → claimed_by l.claims.runs (Slot number slot) ≡ [];
  pointers : (fragment level at : ℕ) → claimed_by l.claims.runs (Pointer fragment level at) ≡ [];
  slots : g.V.View.tells l.view → (v : List (List ℕ)) → g.V.View.stands_for l.fn.view v
      → HoldsIn (g.V.View.size l.fn.view) v l.held l.levels.aside × ((number slot : ℕ) → number < l.number → claimed_by l.claims.runs (Slot number slot) ≡ source_fragments l.g v (Slot number slot));
  there : g.V.View.tells l.view → (v : List (List ℕ)) → g.V.View.stands_for l.fn.view v
      → IfSome l.held (λ b. g.V.View.is_gone l.fn.view b ≡ false) × ((i : ℕ) → 2 ≤ i → i < l.number → g.V.View.is_gone l.fn.view (inode_block l.g i) ≡ false);
  fetched : FetchesKind g.V.View l.fn.view l.view (HasInode l.g);
}
