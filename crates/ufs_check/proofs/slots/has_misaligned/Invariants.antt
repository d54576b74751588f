use Rattle.std.proofs.Common.{◌≡◌, ◌≢◌, ℕ, ◌<◌, ◌%◌}
use Rattle.ufs_model.specs.Pointers.{slot_address}
use Rattle.ufs_model.specs.declared.pointers.Address.TheVariants.{At}
use Rattle.ufs_check.proofs.slots.has_misaligned.Given as goal

abbrev pub invariant-loop-slot : goal.invariant-loop-slot
invariant-loop-slot l = (slot start : ℕ) → slot < l.slot → slot_address l.g l.inode slot ≡ At start l.g.frag → start % l.g.frag ≢ 0 → ⊥
