use Rattle.std.proofs.Common.{◌≡◌, ◌≤◌, length}
use Rattle.dg_io.specs.Reduced.{places_left}
use Rattle.dg_label.proofs.PlaceLaws.{AreBitsLeft}
use Rattle.dg_label.proofs.places.bits_left.Given as goal

abbrev pub invariant-loop-boundary : goal.invariant-loop-boundary
invariant-loop-boundary l = record {
  place : l.place ≡ length (places_left l.lost l.boundary);
  low : l.place ≤ l.boundary;
  bits : AreBitsLeft l.bits (places_left l.lost l.boundary) l.kept;
}
