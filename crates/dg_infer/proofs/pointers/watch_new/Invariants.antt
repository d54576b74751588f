use Rattle.std.proofs.Common.{◌-◌, ◌<◌, ℕ, List, Contains}
use Rattle.ufs_model.specs.Claims.{pointer_fragments}
use Rattle.ufs_model.specs.declared.claims.ClaimSource.{ClaimSource}
use Rattle.dg_claims.specs.Kept.{claimed_by}
use Rattle.dg_infer.specs.Watches.{Grows, IsTouched, IsWatched}
use Rattle.dg_infer.proofs.pointers.watch_new.Given as goal

abbrev pub invariant-loop-at : goal.invariant-loop-at
invariant-loop-at l = record {
  grows : Grows l.fn.watch l.watch;
  touched : (a f : ℕ) → a < l.at → Contains (pointer_fragments l.g l.bytes a) f → IsTouched l.watch (l.level - 1) f;
  watched : (before : ClaimSource → List ℕ) → IsWatched before (claimed_by l.claims.runs) l.fn.watch → IsWatched before (claimed_by l.claims.runs) l.watch;
}
