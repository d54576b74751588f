use Rattle.std.proofs.Common.{◌≡◌, ℕ, List, take, Contains}
use Rattle.dg_io.specs.ViewWords.{Keeps}
use Rattle.ufs_model.specs.Claims.{source_fragments}
use Rattle.ufs_model.specs.declared.claims.ClaimSource.{ClaimSource}
use Rattle.ufs_model.specs.declared.claims.ClaimSource.TheVariants.{Pointer}
use Rattle.dg_claims.specs.Kept.{claimed_by}
use Rattle.ufs_pointer.specs.ViewWords.{FetchesKind}
use Rattle.dg_claims.specs.Scans.{IsAmong}
use Rattle.dg_claims.specs.There.{HadKind}
use Rattle.dg_claims.proofs.levels.scan_fragments.Given as goal

abbrev pub invariant-loop-fragment : goal.invariant-loop-fragment
invariant-loop-fragment g l = record {
  keeps : Keeps g.V.View l.fn.view l.view;
  levels : l.levels.fragment ≡ l.fn.levels.fragment;
  geometry : l.claims.geometry ≡ l.fn.claims.geometry;
  pointers : g.V.View.tells l.view → (v : List (List ℕ)) → g.V.View.stands_for l.fn.view v
      → (fragment at : ℕ) → Contains (take l.fragment-index l.fragments) fragment → claimed_by l.claims.runs (Pointer fragment l.level at) ≡ source_fragments l.g v (Pointer fragment l.level at);
  others : (source : ClaimSource) → ((fragment at : ℕ) → Contains l.fragments fragment → source ≡ Pointer fragment l.level at → ⊥) → claimed_by l.claims.runs source ≡ claimed_by l.fn.claims.runs source;
  there : HadKind g.V.View l.fn.view l.view (IsAmong (take l.fragment-index l.fragments));
  fetched : FetchesKind g.V.View l.fn.view l.view (IsAmong l.fragments);
}
