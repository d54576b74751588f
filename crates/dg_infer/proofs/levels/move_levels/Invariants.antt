use Rattle.std.proofs.Common.{◌≡◌, ◌-◌, ℕ, List}
use Rattle.dg_io.specs.ViewWords.{Keeps}
use Rattle.ufs_model.specs.Blocks.{Volume, block_at}
use Rattle.ufs_model.specs.Claims.{source_fragments}
use Rattle.ufs_model.specs.declared.claims.ClaimSource.{ClaimSource}
use Rattle.dg_claims.specs.Kept.{claimed_by}
use Rattle.dg_infer.specs.Changes.{IsReady, IsRightDownTo}
use Rattle.dg_infer.specs.Fetched.{FetchesPlaces, IsBegun}
use Rattle.dg_infer.specs.Places.{IsClaimedReady}
use Rattle.dg_infer.specs.Watches.{Grows, IsWatched}
use Rattle.dg_infer.proofs.levels.move_levels.Given as goal

abbrev pub invariant-loop-done : goal.invariant-loop-done
invariant-loop-done g l = record {
  keeps : Keeps g.V.View l.fn.view l.view;
  levels : l.levels.fragment ≡ l.fn.levels.fragment;
  geometry : l.claims.geometry ≡ l.fn.claims.geometry;
  grows : Grows l.fn.watch l.watch;
  watched : (before : ClaimSource → List ℕ) → IsWatched before (claimed_by l.fn.claims.runs) l.fn.watch → IsWatched before (claimed_by l.claims.runs) l.watch;
  right : g.V.View.tells l.view → (v : Volume) → g.V.View.stands_for l.fn.view v → l.bytes ≡ block_at (g.V.View.size l.fn.view) v l.block
      → (sources before : ClaimSource → List ℕ) → IsReady (source_fragments l.g v) sources before (claimed_by l.fn.claims.runs) l.block l.fn.watch
      → IsRightDownTo (source_fragments l.g v) before (claimed_by l.claims.runs) (3 - l.done);
  fetched : (before : ClaimSource → List ℕ) → IsWatched before (claimed_by l.fn.claims.runs) l.fn.watch
      → FetchesPlaces g.V.View.fetched
      (IsBegun before (IsClaimedReady g.V.View l.fn.view l.view l.g l.block l.bytes (claimed_by l.fn.claims.runs) l.fn.watch) (3 - l.done) l.block) l.fn.view l.view;
}
