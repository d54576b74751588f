use Rattle.std.proofs.Common.{◌≡◌, ◌↔◌, ℕ, true}
use Rattle.dg_model.specs.Marks.{is_marked}
use Rattle.dg_volume.specs.LostFiles.{LostBelow}
use Rattle.dg_volume.proofs.lost_inodes.lost_inodes.Given as goal

abbrev pub invariant-loop-block : goal.invariant-loop-block
invariant-loop-block l = (i : ℕ) → (is_marked l.marks.items i ≡ true) ↔ LostBelow l.inference l.cut l.block i
