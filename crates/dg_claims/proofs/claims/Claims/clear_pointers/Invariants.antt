use Rattle.std.proofs.Common.{◌≡◌}
use Rattle.dg_claims.specs.Kept.{HasNone, SetsFirst}
use Rattle.dg_claims.specs.Places.{pointer_place}
use Rattle.dg_claims.proofs.claims.Claims.clear_pointers.Given as goal

abbrev pub invariant-loop-at : goal.invariant-loop-at
invariant-loop-at l = record {
  geometry : l.self.geometry ≡ l.fn.self.geometry;
  cleared : SetsFirst l.fn.self.runs l.self.runs (pointer_place l.fragment l.level) HasNone l.at;
}
