use Rattle.dg_pair_tests.proofs.tests.a_member_without_room_falls.Goals as goal

pub extend-requires-2-clause-room : goal.extend-requires-2-clause-room
extend-requires-2-clause-room g c = rw (c.extend.ensures.leaves.pair.size_is, c.extend.ensures.leaves.pair.slots_is) c.extend.ensures.leaves.room
