use Rattle.std.proofs.Common.{◌+◌, ◌<◌, ◌≤◌, ℕ, List}
use Rattle.ufs_model.specs.declared.claims.ClaimSource.{ClaimSource}
use Rattle.dg_claims.specs.Kept.{claimed_by}
use Rattle.dg_infer.specs.Watches.{Grows, IsTouched, IsWatched}
use Rattle.dg_infer.proofs.watches.watch_run.Given as goal

abbrev pub invariant-loop-i : goal.invariant-loop-i
invariant-loop-i l = record {
  grows : Grows l.fn.watch l.watch;
  touched : (f : ℕ) → l.claimed.first ≤ f → f < l.claimed.first + l.i → IsTouched l.watch l.level f;
  watched : (before : ClaimSource → List ℕ) → IsWatched before (claimed_by l.claims.runs) l.fn.watch → IsWatched before (claimed_by l.claims.runs) l.watch;
}
