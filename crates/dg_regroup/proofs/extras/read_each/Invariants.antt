use Rattle.std.proofs.Common.{◌≡◌, ◌<◌, ◌*◌, ◌^◌, ℕ, All, length, take}
use Rattle.std.specs.Prelude.{flat_map}
use Rattle.byteorder.specs.Endian.{little_bytes}
use Rattle.dg_regroup.proofs.extras.read_each.Given as goal

abbrev pub invariant-loop-place : goal.invariant-loop-place
invariant-loop-place l = record {
  many : length l.numbers.items ≡ l.place;
  fit : All (λ (b : ℕ). b < 2 ^ 32) l.numbers.items;
  are : take (4 * l.place) l.bytes ≡ flat_map (little_bytes 4) l.numbers.items;
}
