use Rattle.ufs_build.proofs.PartLaws.{given_parts}
use Rattle.ufs_build.specs.Images.{indirect_parts}
use Rattle.ufs_build.proofs.images.put_level.Goals as goal

pub loop-index-preserved : goal.loop-index-preserved
loop-index-preserved c =
    given_parts (indirect_parts c.args.g.now c.args.addresses.now c.args.level) c.loop-index.index _ _ _ c.loop-index.invariant c.put_indirect.ensures
