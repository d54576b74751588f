use Rattle.std.proofs.Common.{◌-◌, ◌<◌, ℕ, List, Contains}
use Rattle.ufs_model.specs.declared.claims.ClaimSource.{ClaimSource}
use Rattle.ufs_model.specs.declared.claims.ClaimSource.TheVariants.{Pointer}
use Rattle.dg_claims.specs.Kept.{claimed_by}
use Rattle.dg_infer.specs.Watches.{Grows, IsTouched, IsWatched}
use Rattle.dg_infer.proofs.pointers.watch_old.Given as goal

abbrev pub invariant-loop-at : goal.invariant-loop-at
invariant-loop-at l = record {
  grows : Grows l.fn.watch l.watch;
  touched : (a f : ℕ) → a < l.at → Contains (claimed_by l.claims.runs (Pointer l.fragment l.level a)) f → IsTouched l.watch (l.level - 1) f;
  watched : (before : ClaimSource → List ℕ) → IsWatched before (claimed_by l.claims.runs) l.fn.watch → IsWatched before (claimed_by l.claims.runs) l.watch;
}
