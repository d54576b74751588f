use Rattle.std.proofs.Common.{◌≡◌, ◌<◌, ℕ}
use Rattle.std.specs.Prelude.{slice_index_or}
use Rattle.dg_volume.specs.Phases.{CanReap}
use Rattle.dg_volume.proofs.phases.tell_reaped.Given as goal

abbrev pub invariant-loop-place : goal.invariant-loop-place
invariant-loop-place l = (l.inference ≡ l.initial.inference) × ((k : ℕ) → k < l.place → CanReap l.initial.inference (slice_index_or l.blocks k 0))
