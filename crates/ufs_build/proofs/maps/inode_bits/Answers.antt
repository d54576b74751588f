use Rattle.std.proofs.Common.{◌*◌, ◌+◌, nat_lt}
use Rattle.ufs_build.proofs.ListSteps.{given_more}
use Rattle.ufs_build.proofs.maps.inode_bits.Goals as goal

pub loop-i-preserved : goal.loop-i-preserved
loop-i-preserved c =
    given_more (λ i. nat_lt (c.args.c * c.args.g.now.ipg + i) c.args.inodes) c.loop-i.i _ _ _ c.loop-i.invariant c.is_below.ensures c.in_ok-push_bit.ensures
