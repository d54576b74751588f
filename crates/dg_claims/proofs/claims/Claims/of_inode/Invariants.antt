use Rattle.std.proofs.Common.{◌≡◌}
use Rattle.ufs_model.specs.Claims.{slot_fragments}
use Rattle.dg_claims.specs.Kept.{HasFragments, SetsFirst}
use Rattle.dg_claims.specs.Places.{slot_place}
use Rattle.dg_claims.proofs.claims.Claims.of_inode.Given as goal

abbrev pub invariant-loop-slot : goal.invariant-loop-slot
invariant-loop-slot l = record {
  geometry : l.self.geometry ≡ l.fn.self.geometry;
  slots : SetsFirst l.initial.self.runs l.self.runs (slot_place l.number) (HasFragments (slot_fragments l.g l.inode)) l.slot;
}
