use Rattle.std.proofs.Common.{◌≡◌, ◌<◌, ℕ, [], false, slice_index}
use Rattle.dg_infer.specs.Files.{Gains}
use Rattle.dg_infer.specs.Known.{is_system_by}
use Rattle.dg_infer.proofs.files.without_system.Given as goal

abbrev pub invariant-loop-place : goal.invariant-loop-place
invariant-loop-place l = record {
  gains : Gains [] l.plain.items (λ b. (k : ℕ) × (k < l.place) × ((b ≡ slice_index l.blocks k) × (is_system_by l.geometry b ≡ false)));
}
