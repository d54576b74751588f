use Rattle.std.proofs.Common.{◌≡◌, ◌-◌, ℕ, length}
use Rattle.dg_model.specs.Marks.{is_marked}
use Rattle.dg_volume.proofs.lost_inodes.grow.Given as goal

abbrev pub invariant-loop-marks : goal.invariant-loop-marks
invariant-loop-marks l = (i : ℕ) → is_marked l.marks.items i ≡ is_marked l.fn.marks.items i

abbrev pub decreases-loop-marks : goal.decreases-loop-marks
decreases-loop-marks l = l.count - length l.marks.items
