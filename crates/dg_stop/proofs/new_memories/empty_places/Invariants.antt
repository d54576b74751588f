use Rattle.std.proofs.Common.{◌≡◌, ◌≤◌, ◌<◌, ◌-◌, ℕ, length}
use Rattle.std.specs.Prelude.{slice_get}
use Rattle.dg_stop.specs.Doubles.{most_of}
use Rattle.dg_stop.specs.Phases.{size_in}
use Rattle.dg_stop.proofs.new_memories.empty_places.Given as goal

abbrev pub invariant-loop-alloc : goal.invariant-loop-alloc
invariant-loop-alloc l = record {
  count : length l.all.items ≤ l.count;
  sizes : (q : ℕ) → size_in l.all.items q ≡ 0;
  most : (q : ℕ) → q < length l.all.items → most_of (slice_get l.all.items q) ≡ l.most;
}

abbrev pub decreases-loop-alloc : goal.decreases-loop-alloc
decreases-loop-alloc l = l.count - length l.all.items
