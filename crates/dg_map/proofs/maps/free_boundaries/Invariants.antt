use Rattle.std.proofs.Common.{◌≡◌, length}
use Rattle.std.specs.List.{All}
use Rattle.dg_map.specs.Slots.{IsUnused}
use Rattle.dg_map.proofs.maps.free_boundaries.Given as goal

abbrev pub invariant-loop : goal.invariant-loop
invariant-loop l = (length l.boundaries.items ≡ l.counter) × All (IsUnused l.most) l.boundaries.items
