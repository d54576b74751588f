use Rattle.std.proofs.Common.{refl, arith}
use Rattle.dg_map.proofs.SlotLemmas.{count_some, slots_give, some_within}
use Rattle.dg_map.proofs.boundary_slots.Slots.give_up.Goals as goal

pub overflow_sub-self : goal.overflow_sub-self
overflow_sub-self c = count_some c.args.self.now c.args.slot c.requires.sound c.requires.used

pub returns : goal.returns
returns c =
    let some = count_some c.args.self.now c.args.slot c.requires.sound c.requires.used in
    slots_give c.args.self.now _ c.args.slot c.requires.sound refl (some_within c.args.self.now c.args.slot c.requires.sound c.requires.used) c.requires.used c.insert.ensures refl (omega arith)
