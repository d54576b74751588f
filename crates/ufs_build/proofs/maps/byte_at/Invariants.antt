use Rattle.std.proofs.Common.{◌≡◌, ◌<◌, ◌^◌}
use Rattle.ufs_build.specs.Images.{bit_sum}
use Rattle.ufs_build.proofs.maps.byte_at.Given as goal

abbrev pub invariant-loop-i : goal.invariant-loop-i
invariant-loop-i l = record { sum : l.byte ≡ bit_sum l.bits l.start l.i; small : l.byte < 2 ^ l.i }
