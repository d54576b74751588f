use Rattle.std.proofs.Common.{◌≡◌, ◌↔◌, ◌<◌, ℕ, true, length}
use Rattle.dg_claims.specs.Kept.{claimed_by}
use Rattle.dg_infer.specs.Known.{IsKnownBy}
use Rattle.dg_model.specs.Marks.{is_marked}
use Rattle.dg_infer.proofs.pending.clear_known.Given as goal

abbrev pub invariant-loop-block : goal.invariant-loop-block
invariant-loop-block l = record {
  room : length l.marks ≡ length l.fn.marks;
  marks : (b : ℕ) → (is_marked l.marks b ≡ true) ↔ ((is_marked l.fn.marks b ≡ true) × (b < l.block → IsKnownBy l.geometry (claimed_by l.claims.runs) b → ⊥));
}
