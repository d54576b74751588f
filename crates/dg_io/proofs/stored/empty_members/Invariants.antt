use Rattle.std.proofs.Common.{◌≡◌, ◌≤◌, ◌<◌, ◌-◌, ℕ, length, [], true}
use Rattle.std.specs.Prelude.{slice_get}
use Rattle.dg_io.specs.Racks.{bytes_of, room_of, is_there}
use Rattle.dg_io.proofs.stored.empty_members.Given as goal

abbrev pub invariant-loop-alloc : goal.invariant-loop-alloc
invariant-loop-alloc l = record {
  count : length l.all.items ≤ l.count;
  empty : (q : ℕ) → bytes_of (slice_get l.all.items q) ≡ [];
  room : (q : ℕ) → q < length l.all.items → room_of (slice_get l.all.items q) ≡ l.room;
  there : (q : ℕ) → q < length l.all.items → is_there (slice_get l.all.items q) ≡ true;
}

abbrev pub decreases-loop-alloc : goal.decreases-loop-alloc
decreases-loop-alloc l = l.count - length l.all.items
