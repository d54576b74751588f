use Rattle.std.proofs.Common.{◌≡◌}
use Rattle.dg_claims.specs.Kept.{HasNone, SetsFirst}
use Rattle.dg_claims.specs.Places.{slot_place}
use Rattle.dg_claims.proofs.claims.Claims.clear_slots.Given as goal

abbrev pub invariant-loop-slot : goal.invariant-loop-slot
invariant-loop-slot l = record {
  geometry : l.self.geometry ≡ l.fn.self.geometry;
  cleared : SetsFirst l.fn.self.runs l.self.runs (slot_place l.number) HasNone l.slot;
}
