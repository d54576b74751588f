use Rattle.std.proofs.Common.{}
use Rattle.dg_map.proofs.SlotLemmas.{lower_some, some_free}
use Rattle.dg_map.proofs.boundary_slots.Slots.take.Goals as goal

pub unreachable-requires : goal.unreachable-requires
unreachable-requires c = some_free c.args.self.now c.requires.sound c.requires.left c.in_default.ensures

pub returns-clause-lowest : goal.returns-clause-lowest
returns-clause-lowest c k below = lower_some c.args.self.now c.in-Some.slot k c.requires.sound c.in-Some.ensures below
