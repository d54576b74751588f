use Rattle.std.proofs.Common.{◌≡◌}
use Rattle.ufs_model.specs.Claims.{pointer_fragments}
use Rattle.dg_claims.specs.Kept.{HasFragments, SetsFirst}
use Rattle.dg_claims.specs.Places.{pointer_place}
use Rattle.dg_claims.proofs.claims.Claims.of_pointers.Given as goal

abbrev pub invariant-loop-at : goal.invariant-loop-at
invariant-loop-at l = record {
  geometry : l.self.geometry ≡ l.fn.self.geometry;
  pointers : SetsFirst l.initial.self.runs l.self.runs (pointer_place l.fragment l.level) (HasFragments (pointer_fragments l.g l.bytes)) l.at;
}
