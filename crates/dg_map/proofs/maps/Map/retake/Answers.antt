use Rattle.dg_model.proofs.PutLaws.{undone}
use Rattle.dg_map.specs.Maps.{table_of}
use Rattle.dg_map.proofs.MapLemmas.{room_for, slot_none, taken_at, with_slots}
use Rattle.dg_map.proofs.maps.Map.retake.Goals as goal

pub take_at-requires-clause-free : goal.take_at-requires-clause-free
take_at-requires-clause-free c = slot_none c.self.inside c.self.invariant c.args.self.now c.self.view_is c.args.site.boundary c.args.site.slot c.index_mut-slots.result.now c.requires.boundary c.index_mut-slots.ensures.value c.requires.free

pub push-requires-clause-room : goal.push-requires-clause-room
push-requires-clause-room c = room_for c.self.inside c.self.invariant c.args.self.now c.self.view_is c.args.block c.args.site.boundary c.requires.block c.requires.boundary c.requires.none

pub invariant_of-self : goal.invariant_of-self
invariant_of-self c = (taken_at c.self.inside c.self.invariant c.args.self.now c.self.view_is c.push.new.self c.index_mut-slots.result.now c.take_at.new.self c.args.block c.args.site c.requires.block c.requires.boundary c.requires.none c.index_mut-slots.ensures.value c.take_at.ensures c.push.ensures).0

pub returns-clause-taken : goal.returns-clause-taken
returns-clause-taken c = (taken_at c.self.inside c.self.invariant c.args.self.now c.self.view_is c.push.new.self c.index_mut-slots.result.now c.take_at.new.self c.args.block c.args.site c.requires.block c.requires.boundary c.requires.none c.index_mut-slots.ensures.value c.take_at.ensures c.push.ensures).1

pub returns-clause-undone : goal.returns-clause-undone
returns-clause-undone c =
    undone c.args.self.now (table_of (with_slots c.self.inside c.push.new.self c.args.site.boundary c.take_at.new.self)) c.args.block c.args.site c.requires.block (taken_at c.self.inside c.self.invariant c.args.self.now c.self.view_is c.push.new.self c.index_mut-slots.result.now c.take_at.new.self c.args.block c.args.site c.requires.block c.requires.boundary c.requires.none c.index_mut-slots.ensures.value c.take_at.ensures c.push.ensures).1

pub returns-clause-table : goal.returns-clause-table
returns-clause-table c = (taken_at c.self.inside c.self.invariant c.args.self.now c.self.view_is c.push.new.self c.index_mut-slots.result.now c.take_at.new.self c.args.block c.args.site c.requires.block c.requires.boundary c.requires.none c.index_mut-slots.ensures.value c.take_at.ensures c.push.ensures).0.table
