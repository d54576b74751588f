use Rattle.std.proofs.Common.{◌≡◌, ◌≤◌, ◌<◌, ◌-◌, ℕ, false, length}
use Rattle.dg_model.specs.Marks.{is_marked}
use Rattle.dg_volume.specs.Volumes.{marks_of, shape_of}
use Rattle.dg_volume.proofs.volumes.Volume.mark_pending.Given as goal

abbrev pub invariant-loop-block : goal.invariant-loop-block
invariant-loop-block g l = record {
  size : length l.marks.items ≡ (shape_of l.self).n;
  within : l.from ≤ (shape_of l.self).n;
  below : (b : ℕ) → b < l.from → is_marked l.marks.items b ≡ is_marked (marks_of g.S.InPhase l.self) b;
  above : (b : ℕ) → l.from ≤ b → is_marked l.marks.items b ≡ false;
}

abbrev pub decreases-loop-block : goal.decreases-loop-block
decreases-loop-block g l = (shape_of l.self).n - l.from
