use Rattle.dg_io.specs.Racks.{member_in}
use Rattle.dg_pair_tests.proofs.tests.a_refilled_member_serves.Goals as goal

pub write-requires-clause-room : goal.write-requires-clause-room
write-requires-clause-room g c = rw (c.note.ensures.leaves.pair.size_is, c.note.ensures.leaves.pair.slots_is) c.note.ensures.leaves.room

pub replace-requires-clause-room : goal.replace-requires-clause-room
replace-requires-clause-room g c = rw (c.fail.ensures.keeps.size_is, c.fail.ensures.keeps.slots_is) (c.fail.ensures.room (member_in c.write.new.rack) (
    rw (c.write.ensures.leaves.pair.size_is, c.write.ensures.leaves.pair.slots_is) c.write.ensures.leaves.room))

pub copy_slot-requires-clause-room : goal.copy_slot-requires-clause-room
copy_slot-requires-clause-room g c = rw (c.replace.ensures.leaves.pair.size_is, c.replace.ensures.leaves.pair.slots_is) c.replace.ensures.leaves.room

pub read-requires-clause-room : goal.read-requires-clause-room
read-requires-clause-room g c =
    let bytes = member_in c.copy_slot.new.rack in
    rw (c.fail-2.ensures.keeps.size_is, c.fail-2.ensures.keeps.slots_is) (c.fail-2.ensures.room bytes (
    rw (c.complete.ensures.keeps.size_is, c.complete.ensures.keeps.slots_is) (c.complete.ensures.room bytes (
    rw (c.pass_slot.ensures.keeps.size_is, c.pass_slot.ensures.keeps.slots_is) (c.pass_slot.ensures.room bytes (
    rw (c.copy_slot.ensures.leaves.pair.size_is, c.copy_slot.ensures.leaves.pair.slots_is) c.copy_slot.ensures.leaves.room))))))
