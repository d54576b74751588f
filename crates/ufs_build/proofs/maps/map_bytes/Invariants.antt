use Rattle.std.proofs.Common.{◌≡◌, ◌*◌, map}
use Rattle.std.specs.List.{range_with_len}
use Rattle.ufs_build.specs.Images.{bit_sum}
use Rattle.ufs_build.proofs.maps.map_bytes.Given as goal

abbrev pub invariant-loop-j : goal.invariant-loop-j
invariant-loop-j l = l.bytes.items ≡ map (λ j. bit_sum l.bits (8 * j) 8) (range_with_len 0 l.j)
