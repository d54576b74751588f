use Rattle.std.proofs.Common.{◌-◌, ◌<◌, ℕ, List, Contains}
use Rattle.ufs_model.specs.declared.claims.ClaimSource.{ClaimSource}
use Rattle.ufs_model.specs.declared.claims.ClaimSource.TheVariants.{Slot}
use Rattle.dg_claims.specs.Kept.{claimed_by}
use Rattle.dg_infer.specs.Watches.{Grows, IsTouched, IsWatched}
use Rattle.dg_infer.proofs.inodes.watch_old.Given as goal

abbrev pub invariant-loop-slot : goal.invariant-loop-slot
invariant-loop-slot l = record {
  grows : Grows l.fn.watch l.watch;
  touched : (s f : ℕ) → s < l.slot → Contains (claimed_by l.claims.runs (Slot l.number s)) f → IsTouched l.watch (s - 11) f;
  watched : (before : ClaimSource → List ℕ) → IsWatched before (claimed_by l.claims.runs) l.fn.watch → IsWatched before (claimed_by l.claims.runs) l.watch;
}
