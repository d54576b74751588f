use Rattle.std.proofs.Common.{◌≢◌, ℕ, ◌<◌, Some}
use Rattle.ufs_model.specs.Pointers.{pointer_in}
use Rattle.ufs_check.specs.Limits.{IsPastLimit}
use Rattle.ufs_check.proofs.pointers.has_past_pointer.Given as goal

abbrev pub invariant-loop-at : goal.invariant-loop-at
invariant-loop-at l = (at : ℕ) → at < l.at → pointer_in l.g.endian l.bytes at ≢ 0 → IsPastLimit (Some l.limit) at → ⊥
