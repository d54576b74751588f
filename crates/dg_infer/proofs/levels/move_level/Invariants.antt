use Rattle.std.proofs.Common.{◌≡◌, ◌<◌, ℕ, List}
use Rattle.dg_io.specs.ViewWords.{Keeps}
use Rattle.ufs_model.specs.Blocks.{Volume, block_at}
use Rattle.ufs_model.specs.Claims.{source_fragments}
use Rattle.ufs_model.specs.declared.claims.ClaimSource.{ClaimSource}
use Rattle.ufs_model.specs.declared.claims.ClaimSource.TheVariants.{Pointer}
use Rattle.dg_claims.specs.Kept.{claimed_by}
use Rattle.dg_infer.specs.Changes.{IsMoved}
use Rattle.dg_infer.specs.Fetched.{Begins, FetchesOnce}
use Rattle.dg_infer.specs.Watches.{Grows, IsWatched, touch_at}
use Rattle.dg_infer.proofs.levels.move_level.Given as goal

abbrev pub invariant-loop-k : goal.invariant-loop-k
invariant-loop-k g l = record {
  keeps : Keeps g.V.View l.fn.view l.view;
  levels : l.levels.fragment ≡ l.fn.levels.fragment;
  grows : Grows l.fn.watch l.watch;
  geometry : l.claims.geometry ≡ l.fn.claims.geometry;
  moved : g.V.View.tells l.view → (v : Volume) → g.V.View.stands_for l.fn.view v → l.bytes ≡ block_at (g.V.View.size l.fn.view) v l.block
      → (j : ℕ) → j < l.k → (touch_at l.fn.watch j).level ≡ l.level → IsMoved (source_fragments l.g v) (claimed_by l.fn.claims.runs) (claimed_by l.claims.runs) l.block (touch_at l.fn.watch j);
  others : (source : ClaimSource) → ((j at : ℕ) → j < l.k → (touch_at l.fn.watch j).level ≡ l.level → source ≡ Pointer (touch_at l.fn.watch j).fragment l.level at → ⊥)
      → claimed_by l.claims.runs source ≡ claimed_by l.fn.claims.runs source;
  watched : (before : ClaimSource → List ℕ) → IsWatched before (claimed_by l.fn.claims.runs) l.fn.watch → IsWatched before (claimed_by l.claims.runs) l.watch;
  fetched : FetchesOnce g.V.View.fetched (Begins l.fn.watch (claimed_by l.fn.claims.runs) l.level l.block l.k) l.fn.view l.view;
}
