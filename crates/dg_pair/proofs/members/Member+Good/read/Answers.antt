use Rattle.dg_pair.proofs.SlotLemmas.{room_slot}
use Rattle.dg_pair.proofs.members.Member+Good.read.Goals as goal

pub read-requires-clause-range : goal.read-requires-clause-range
read-requires-clause-range g c = room_slot c.args.self.l c.args.self.slots c.args.slot _ _ c.requires.slot c.requires.size c.requires.room
