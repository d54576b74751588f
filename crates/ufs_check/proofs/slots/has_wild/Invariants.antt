use Rattle.std.proofs.Common.{◌≡◌, ℕ, ◌<◌}
use Rattle.ufs_model.specs.Pointers.{slot_address}
use Rattle.ufs_model.specs.declared.pointers.Address.TheVariants.{Wild}
use Rattle.ufs_check.proofs.slots.has_wild.Given as goal

abbrev pub invariant-loop-slot : goal.invariant-loop-slot
invariant-loop-slot l = (slot : ℕ) → slot < l.slot → slot_address l.g l.inode slot ≡ Wild → ⊥
