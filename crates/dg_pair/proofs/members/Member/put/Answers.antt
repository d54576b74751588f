use Rattle.dg_model.specs.Members.{place_of}
use Rattle.dg_pair.proofs.SlotLemmas.{room_slot, put_slots, put_torn}
use Rattle.dg_pair.proofs.members.Member.put.Goals as goal

pub write-requires-clause-range : goal.write-requires-clause-range
write-requires-clause-range g c = room_slot c.args.self.now.l c.args.self.now.slots c.args.slot _ _ c.requires.slot c.requires.size c.requires.room

pub returns-clause-kept : goal.returns-clause-kept
returns-clause-kept g c = put_slots c.write.result c.args.self.now.l c.args.self.now.slots c.args.slot c.args.buf.now _ _ c.requires.slot c.requires.size c.requires.room c.write.ensures.ok c.write.ensures.err

pub returns-clause-torn : goal.returns-clause-torn
returns-clause-torn g c =
    let room = room_slot c.args.self.now.l c.args.self.now.slots c.args.slot _ (g.R.Rack.bytes c.args.rack.now c.args.self.now.number) c.requires.slot c.requires.size c.requires.room in
    put_torn c.write.result c.args.self.now.number (place_of c.args.self.now.l c.args.slot) c.args.buf.now _ _ room c.write.ensures.ok c.write.ensures.err c.write.ensures.leaves.others
