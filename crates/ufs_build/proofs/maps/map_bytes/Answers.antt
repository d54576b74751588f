use Rattle.std.proofs.Common.{◌*◌}
use Rattle.ufs_build.specs.Images.{bit_sum}
use Rattle.ufs_build.proofs.ListSteps.{given_more}
use Rattle.ufs_build.proofs.maps.map_bytes.Goals as goal

pub loop-j-preserved : goal.loop-j-preserved
loop-j-preserved c = given_more (λ j. bit_sum c.args.bits.now (8 * j) 8) c.loop-j.j _ _ _ c.loop-j.invariant c.byte_at.ensures c.in_ok-push_byte.ensures
