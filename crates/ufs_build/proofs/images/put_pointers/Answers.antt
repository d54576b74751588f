use Rattle.ufs_build.proofs.PartLaws.{given_parts, pointer_put}
use Rattle.ufs_build.specs.Images.{pointer_parts}
use Rattle.ufs_build.proofs.images.put_pointers.Goals as goal

pub loop-i-preserved : goal.loop-i-preserved
loop-i-preserved c =
    given_parts (pointer_parts c.args.g.now c.args.addresses.now c.args.level c.args.index) c.loop-i.i _ _ _ c.loop-i.invariant
    (pointer_put c.args.g.now c.args.addresses.now c.args.level c.args.index c.loop-i.i c.args.address c.first_below-first.result c.at-pointer.result _ _
    c.requires.address c.first_below-first.ensures.value (rw c.from.ensures at c.at-pointer.ensures) c.put_u32.ensures)
