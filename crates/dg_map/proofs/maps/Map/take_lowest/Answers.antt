use Rattle.dg_map.proofs.MapLemmas.{room_for, taken_lowest}
use Rattle.dg_map.proofs.maps.Map.take_lowest.Goals as goal

pub place_lowest-requires-clause-room : goal.place_lowest-requires-clause-room
place_lowest-requires-clause-room c = room_for c.self.inside c.self.invariant c.args.self.now c.self.view_is c.args.block c.args.boundary c.requires.block c.requires.boundary c.requires.none

pub invariant_of-self : goal.invariant_of-self
invariant_of-self c = (taken_lowest c.self.inside c.self.invariant c.args.self.now c.self.view_is c.place_lowest.new.lists c.index_mut-slots.result.now c.place_lowest.new.slots c.args.block c.args.boundary c.place_lowest.result c.requires.block c.requires.boundary c.requires.none c.index_mut-slots.ensures.value c.place_lowest.ensures.slots c.place_lowest.ensures.lists c.place_lowest.ensures.boundary c.place_lowest.ensures.lowest).0

pub returns-clause-taken : goal.returns-clause-taken
returns-clause-taken c = (taken_lowest c.self.inside c.self.invariant c.args.self.now c.self.view_is c.place_lowest.new.lists c.index_mut-slots.result.now c.place_lowest.new.slots c.args.block c.args.boundary c.place_lowest.result c.requires.block c.requires.boundary c.requires.none c.index_mut-slots.ensures.value c.place_lowest.ensures.slots c.place_lowest.ensures.lists c.place_lowest.ensures.boundary c.place_lowest.ensures.lowest).1

pub returns-clause-table : goal.returns-clause-table
returns-clause-table c = (taken_lowest c.self.inside c.self.invariant c.args.self.now c.self.view_is c.place_lowest.new.lists c.index_mut-slots.result.now c.place_lowest.new.slots c.args.block c.args.boundary c.place_lowest.result c.requires.block c.requires.boundary c.requires.none c.index_mut-slots.ensures.value c.place_lowest.ensures.slots c.place_lowest.ensures.lists c.place_lowest.ensures.boundary c.place_lowest.ensures.lowest).0.table
