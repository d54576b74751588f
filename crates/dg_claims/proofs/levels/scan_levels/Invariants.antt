use Rattle.std.proofs.Common.{◌≡◌, ◌-◌, ℕ, List}
use Rattle.dg_io.specs.ViewWords.{Keeps}
use Rattle.ufs_model.specs.Claims.{source_fragments}
use Rattle.dg_claims.specs.Kept.{claimed_by}
use Rattle.dg_claims.specs.Scans.{FetchesIndirect, HadAbove, HasNoPointers, IsRightAbove}
use Rattle.dg_claims.proofs.levels.scan_levels.Given as goal

abbrev pub invariant-loop-done : goal.invariant-loop-done
invariant-loop-done g l = record {
  keeps : Keeps g.V.View l.fn.view l.view;
  levels : l.levels.fragment ≡ l.fn.levels.fragment;
  geometry : l.claims.geometry ≡ l.fn.claims.geometry;
  none : HasNoPointers (claimed_by l.claims.runs) (3 - l.done);
  right : g.V.View.tells l.view → (v : List (List ℕ)) → g.V.View.stands_for l.fn.view v
      → IsRightAbove (source_fragments l.g v) (claimed_by l.fn.claims.runs) 3 → IsRightAbove (source_fragments l.g v) (claimed_by l.claims.runs) (3 - l.done);
  there : HadAbove g.V.View l.fn.view l.view l.g (claimed_by l.fn.claims.runs) (3 - l.done);
  fetched : FetchesIndirect g.V.View l.fn.view l.view l.g (claimed_by l.fn.claims.runs) 3;
}
