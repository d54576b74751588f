use Rattle.std.proofs.Common.{◌≡◌, ◌<◌, ℕ, true}
use Rattle.dg_map.specs.Bits.{IsBits, has}
use Rattle.dg_map.proofs.boundary_slots.Slots.new.Given as goal

abbrev pub invariant-loop-slot : goal.invariant-loop-slot
invariant-loop-slot l = record {
  sound : IsBits l.free;
  bound : l.free.bound ≡ l.most;
  set : (k : ℕ) → k < l.slot → has l.free k ≡ true;
}
