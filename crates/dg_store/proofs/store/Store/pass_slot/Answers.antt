use Rattle.std.proofs.Common.{refl, sym, ◌∙◌}
use Rattle.dg_store.specs.ReadLaws.{own_none, rack_none}
use Rattle.dg_store.proofs.Blocks.{stands_free}
use Rattle.dg_store.proofs.Calls.{part_stand, row_is, row_kept_others}
use Rattle.dg_store.proofs.Refills.{changes_at, not_next, part_next, same_told}
use Rattle.dg_store.proofs.Parts.{part_of}
use Rattle.dg_store.proofs.Sound.{row_of, sound_of}
use Rattle.dg_pair.specs.Boundaries.{raised}
use Rattle.dg_store.proofs.store.Store.pass_slot.Goals as goal

pub pass_slot-requires-clause-well : goal.pass_slot-requires-clause-well
pass_slot-requires-clause-well g c =
    let part = part_of c.requires.sound c.requires.boundary c.index_mut.ensures.value in
    part.pair.well

pub pass_slot-requires-clause-next : goal.pass_slot-requires-clause-next
pass_slot-requires-clause-next g c =
    let part = part_of c.requires.sound c.requires.boundary c.index_mut.ensures.value in
    part_next _ _ _ _ c.index_mut.result.now part.within part.was c.requires.sound.built.stands c.requires.next.next

pub returns-clause-sound : goal.returns-clause-sound
returns-clause-sound g c =
    let s = c.requires.sound in
    let part = part_of c.requires.sound c.requires.boundary c.index_mut.ensures.value in
    let x = c.index_mut.result.now in
    let y = c.pass_slot.new.self in
    let row = c.args.self.now.row.items in
    let changed = part.changed y in
    let keeps = c.pass_slot.ensures.keeps in
    sound_of g.R.Rack g.met.R.Rack.told _ s.table
    (row_is g.R.Rack c.args.self.now.map.shape c.args.boundary row x y _ _ part.within part.was (row_of g.R.Rack c.args.self.now s) keeps
    (λ q serving. part_stand _ _ _ _ _ x part.within part.was s.built.stands _ s.stand q (λ out. serving (c.pass_slot.ensures.out_stays q out)))
    (λ q off stands. stands) (λ q off. same_told _)
    (λ q here serving. s.long q (λ out. serving (c.pass_slot.ensures.out_stays q (sym (changed.was q here) ∙ out)))))
    s.built.block s.built.given_up

pub returns-clause-stays : goal.returns-clause-stays
returns-clause-stays g c = record { shape = refl; stays = rack_none g.R.Rack c.args.self.now.rack; own = own_none g.R.Rack c.args.self.now.map.shape.b c.args.self.now.rack }

pub returns-clause-raised : goal.returns-clause-raised
returns-clause-raised g c =
    let part = part_of c.requires.sound c.requires.boundary c.index_mut.ensures.value in
    let y = c.pass_slot.new.self in
    let k = rw part.pair.number_is at c.pass_slot.ensures in
    let changed = part.changed y in
    changes_at raised c.args.boundary _ _ _ _ changed k.raised

pub returns-clause-stands : goal.returns-clause-stands
returns-clause-stands g c V st_for =
    let s = c.requires.sound in
    let part = part_of c.requires.sound c.requires.boundary c.index_mut.ensures.value in
    let x = c.index_mut.result.now in
    let y = c.pass_slot.new.self in
    let next = c.requires.next.next in
    stands_free _ _ _ _ V c.args.self.now.map c.args.boundary next.have c.requires.next.free
    (row_kept_others _ _ _ _ x y part.within part.was s.built.stands _ _ (λ q off. same_told _) next.have
    (λ slot v apart. c.pass_slot.ensures.kept _ slot v (not_next _ _ _ _ x part.within part.was s.built.stands next slot apart))) st_for
