use Rattle.dg_io.specs.Racks.{member_in}
use Rattle.dg_pair_tests.proofs.tests.the_even_member_is_blanked_first.Goals as goal

pub write-requires-clause-room : goal.write-requires-clause-room
write-requires-clause-room g c = rw (c.fail.ensures.keeps.size_is, c.fail.ensures.keeps.slots_is) (c.fail.ensures.room (member_in c.new-pair.new.rack) (
    rw (c.new-pair.ensures.leaves.pair.size_is, c.new-pair.ensures.leaves.pair.slots_is) c.new-pair.ensures.leaves.room))

pub read-requires-clause-room : goal.read-requires-clause-room
read-requires-clause-room g c = rw (c.write.ensures.leaves.pair.size_is, c.write.ensures.leaves.pair.slots_is) c.write.ensures.leaves.room
