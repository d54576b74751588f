use Rattle.std.proofs.Common.{refl}
use Rattle.dg_map.proofs.SlotLemmas.{slots_put}
use Rattle.dg_map.proofs.boundary_slots.Slots.take_at.Goals as goal

pub returns : goal.returns
returns c = slots_put c.args.self.now _ c.args.slot c.requires.sound refl c.requires.within c.args.block c.requires.free c.remove.ensures refl refl
