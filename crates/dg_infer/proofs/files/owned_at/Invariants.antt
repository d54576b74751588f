use Rattle.std.proofs.Common.{◌+◌, ◌<◌, ◌⊎◌, ℕ, slice_index, []}
use Rattle.dg_infer.specs.Files.{Gains, IsOfPointer, IsOfSlot}
use Rattle.dg_infer.proofs.files.owned_at.Given as goal

abbrev pub invariant-loop-place : goal.invariant-loop-place
invariant-loop-place l = record {
  gains : Gains [] l.owned.items (λ f. IsOfSlot l.claims l.inode l.level f ⊎ ((k : ℕ) × (k < l.place) × IsOfPointer l.claims (slice_index l.uppers k) (l.level + 1) f));
}
