use Rattle.dg_map.proofs.MapLemmas.{count_in, dropped_at, slot_used}
use Rattle.dg_map.proofs.maps.Map.drop_site.Goals as goal

pub take_out-slot-requires-clause-some : goal.take_out-slot-requires-clause-some
take_out-slot-requires-clause-some c = count_in c.self.inside c.self.invariant c.args.self.now c.self.view_is c.args.block c.args.boundary c.requires.block c.requires.one

pub give_up-requires-clause-used : goal.give_up-requires-clause-used
give_up-requires-clause-used c = slot_used c.self.inside c.self.invariant c.args.self.now c.self.view_is c.args.boundary c.take_out-slot.result c.args.block c.index_mut.result.now c.requires.block c.requires.boundary c.index_mut.ensures.value c.take_out-slot.ensures.slot

pub invariant_of-self : goal.invariant_of-self
invariant_of-self c = (dropped_at c.self.inside c.self.invariant c.args.self.now c.self.view_is c.take_out-slot.new.self c.index_mut.result.now c.give_up.new.self c.args.block c.args.boundary c.take_out-slot.result c.requires.block c.requires.boundary c.requires.one c.index_mut.ensures.value c.take_out-slot.ensures.slot c.give_up.ensures c.take_out-slot.ensures.rows).0

pub returns-clause-dropped : goal.returns-clause-dropped
returns-clause-dropped c = (dropped_at c.self.inside c.self.invariant c.args.self.now c.self.view_is c.take_out-slot.new.self c.index_mut.result.now c.give_up.new.self c.args.block c.args.boundary c.take_out-slot.result c.requires.block c.requires.boundary c.requires.one c.index_mut.ensures.value c.take_out-slot.ensures.slot c.give_up.ensures c.take_out-slot.ensures.rows).1

pub returns-clause-table : goal.returns-clause-table
returns-clause-table c = (dropped_at c.self.inside c.self.invariant c.args.self.now c.self.view_is c.take_out-slot.new.self c.index_mut.result.now c.give_up.new.self c.args.block c.args.boundary c.take_out-slot.result c.requires.block c.requires.boundary c.requires.one c.index_mut.ensures.value c.take_out-slot.ensures.slot c.give_up.ensures c.take_out-slot.ensures.rows).0.table
