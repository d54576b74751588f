use Rattle.std.proofs.Common.{◌≡◌, ◌≢◌, ℕ, ◌<◌, ◌%◌}
use Rattle.ufs_model.specs.Pointers.{address, pointer_in}
use Rattle.ufs_model.specs.declared.pointers.Address.TheVariants.{At}
use Rattle.ufs_check.proofs.pointers.has_misaligned_pointer.Given as goal

abbrev pub invariant-loop-at : goal.invariant-loop-at
invariant-loop-at l = (at start : ℕ) → at < l.at → address l.g (pointer_in l.g.endian l.bytes at) l.g.frag ≡ At start l.g.frag → start % l.g.frag ≢ 0 → ⊥
