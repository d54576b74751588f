use Rattle.ufs_build.proofs.PartLaws.{given_parts}
use Rattle.ufs_build.specs.Images.{slot_parts}
use Rattle.ufs_build.proofs.images.put_slots.Goals as goal

pub loop-slot-preserved : goal.loop-slot-preserved
loop-slot-preserved c =
    given_parts (slot_parts c.args.g.now c.args.at c.args.addresses.now) c.loop-slot.slot _ _ _ c.loop-slot.invariant
    (rw c.slot_address-address.ensures at c.put_u32.ensures)
