use Rattle.dg_io.specs.Racks.{member_in}
use Rattle.dg_pair_tests.proofs.tests.one_serves_on.Goals as goal

pub read-requires-clause-room : goal.read-requires-clause-room
read-requires-clause-room g c = rw (c.write.ensures.leaves.pair.size_is, c.write.ensures.leaves.pair.slots_is) c.write.ensures.leaves.room

pub read-requires-2-clause-room : goal.read-requires-2-clause-room
read-requires-2-clause-room g c = rw (c.fail-2.ensures.keeps.size_is, c.fail-2.ensures.keeps.slots_is) (c.fail-2.ensures.room (member_in c.read.new.rack) (
    rw (c.fail.ensures.keeps.size_is, c.fail.ensures.keeps.slots_is) (c.fail.ensures.room (member_in c.read.new.rack) (
    rw (c.read.ensures.leaves.pair.size_is, c.read.ensures.leaves.pair.slots_is) c.read.ensures.leaves.room))))
