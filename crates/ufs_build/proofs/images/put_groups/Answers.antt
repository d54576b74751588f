use Rattle.ufs_build.proofs.PartLaws.{given_parts}
use Rattle.ufs_build.specs.Images.{group_parts}
use Rattle.ufs_build.proofs.images.put_groups.Goals as goal

pub loop-c-preserved : goal.loop-c-preserved
loop-c-preserved c =
    given_parts (group_parts c.args.g.now c.args.inodes c.args.used.now) c.loop-c.c _ _ _ c.loop-c.invariant c.in_ok-put_group.ensures
