use Rattle.std.proofs.Common.{◌≢◌, ℕ, ◌<◌, ◌≤◌}
use Rattle.ufs_model.specs.Inodes.{block_count, slot_of}
use Rattle.ufs_model.specs.Malformations.{first_block}
use Rattle.ufs_check.proofs.slots.has_past.Given as goal

abbrev pub invariant-loop-slot : goal.invariant-loop-slot
invariant-loop-slot l = (slot : ℕ) → slot < l.slot → slot_of l.inode slot ≢ 0 → block_count l.g l.inode ≤ first_block l.g slot → ⊥
