use Rattle.std.proofs.Common.{◌≡◌, ◌↔◌, ◌<◌, ℕ, true, length}
use Rattle.dg_claims.specs.Kept.{claimed_by}
use Rattle.dg_infer.specs.Known.{HasClaim}
use Rattle.dg_model.specs.Marks.{is_marked}
use Rattle.dg_infer.specs.Watches.{touch_at}
use Rattle.dg_infer.proofs.pending.clear_touched.Given as goal

abbrev pub invariant-loop-k : goal.invariant-loop-k
invariant-loop-k l = record {
  room : length l.marks ≡ length l.fn.marks;
  marks : (b : ℕ) → (is_marked l.marks b ≡ true) ↔ ((is_marked l.fn.marks b ≡ true) × ((j : ℕ) → j < l.k → b ≡ (touch_at l.watch j).fragment → HasClaim (claimed_by l.claims.runs) b → ⊥));
}
