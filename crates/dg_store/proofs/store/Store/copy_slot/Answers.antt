use Rattle.std.proofs.Common.{inl, inr, refl, sym, ◌∙◌, ap}
use Rattle.dg_store.proofs.Blocks.{stands_kept}
use Rattle.dg_store.proofs.Changed.{fell_changed}
use Rattle.dg_store.proofs.Calls.{kept_at, row_falls, row_is, row_kept, row_lost, still_long, own_of, stays_of, called_of, idle_of}
use Rattle.dg_model.specs.Members.{is_filling}
use Rattle.dg_store.proofs.Refills.{changes_at, copy_told, copied_in, not_next, part_filling, part_next, uncopied_falls}
use Rattle.dg_store.proofs.Parts.{part_of}
use Rattle.dg_store.proofs.Sound.{row_of, sound_of}
use Rattle.std.proofs.lemmas.Bool.{cases_eq}
use Rattle.dg_pair.specs.Boundaries.{raised, unfilled}
use Rattle.dg_store.proofs.store.Store.copy_slot.Goals as goal

pub copy_slot-requires-clause-well : goal.copy_slot-requires-clause-well
copy_slot-requires-clause-well g c =
    let part = part_of c.requires.sound c.requires.boundary c.index_mut.ensures.value in
    part.pair.well

pub copy_slot-requires-clause-room : goal.copy_slot-requires-clause-room
copy_slot-requires-clause-room g c =
    let part = part_of c.requires.sound c.requires.boundary c.index_mut.ensures.value in
    part.room

pub copy_slot-requires-clause-stand : goal.copy_slot-requires-clause-stand
copy_slot-requires-clause-stand g c =
    let part = part_of c.requires.sound c.requires.boundary c.index_mut.ensures.value in
    part.stand

pub copy_slot-requires-clause-next : goal.copy_slot-requires-clause-next
copy_slot-requires-clause-next g c =
    let part = part_of c.requires.sound c.requires.boundary c.index_mut.ensures.value in
    part_next _ _ _ _ c.index_mut.result.now part.within part.was c.requires.sound.built.stands c.requires.next

pub copy_slot-requires-clause-size : goal.copy_slot-requires-clause-size
copy_slot-requires-clause-size g c =
    let part = part_of c.requires.sound c.requires.boundary c.index_mut.ensures.value in
    c.requires.size ∙ sym part.pair.size_is

pub returns-clause-sound : goal.returns-clause-sound
returns-clause-sound g c =
    let s = c.requires.sound in
    let part = part_of c.requires.sound c.requires.boundary c.index_mut.ensures.value in
    let x = c.index_mut.result.now in
    let y = c.copy_slot.new.self in
    let row = c.args.self.now.row.items in
    let changed = part.changed y in
    let leaves = c.copy_slot.ensures.leaves in
    sound_of g.R.Rack g.met.R.Rack.told _ s.table
    (row_is g.R.Rack c.args.self.now.map.shape c.args.boundary row x y _ _ part.within part.was (row_of g.R.Rack c.args.self.now s) leaves.pair leaves.stand leaves.others_stand leaves.other_bytes
    (λ q here serving. still_long c.args.self.now.map.shape 512 _ _ _ (c.copy_slot.ensures.beside q)
    (s.long q (λ out. copied_in _ _ c.copy_slot.result _ _ leaves.falls q serving (sym (changed.was q here) ∙ out)))))
    s.built.block s.built.given_up

pub returns-clause-stays : goal.returns-clause-stays
returns-clause-stays g c =
    let part = part_of c.requires.sound c.requires.boundary c.index_mut.ensures.value in
    record { shape = refl; stays = stays_of g.R.Rack g.met.R.Rack.after c.copy_slot.ensures.leaves; own = own_of g.R.Rack part.pair.number_is c.requires.boundary c.copy_slot.ensures.leaves }

pub returns-clause-called : goal.returns-clause-called
returns-clause-called g c =
    let part = part_of c.requires.sound c.requires.boundary c.index_mut.ensures.value in
    called_of g.R.Rack part.pair.own (part.changed c.copy_slot.new.self).was c.copy_slot.ensures.made

pub returns-clause-idle : goal.returns-clause-idle
returns-clause-idle g c =
    let part = part_of c.requires.sound c.requires.boundary c.index_mut.ensures.value in
    idle_of g.R.Rack g.met.R.Rack.after part.pair.own (part.changed c.copy_slot.new.self).was c.copy_slot.ensures.made

pub returns-clause-faulty : goal.returns-clause-faulty
returns-clause-faulty g c =
    let part = part_of c.requires.sound c.requires.boundary c.index_mut.ensures.value in
    fell_changed c.args.boundary _ _ _ _ (part.changed c.copy_slot.new.self) _ _ (λ q off. c.copy_slot.ensures.leaves.other_faults q (λ at. off (at ∙ part.pair.number_is))) c.copy_slot.ensures.leaves.fell

pub returns-clause-beside : goal.returns-clause-beside
returns-clause-beside g c =
    let part = part_of c.requires.sound c.requires.boundary c.index_mut.ensures.value in
    rw (part.pair.slots_is, part.pair.size_is) at c.copy_slot.ensures.beside

pub returns-clause-lost : goal.returns-clause-lost
returns-clause-lost g c =
    let s = c.requires.sound in
    let part = part_of c.requires.sound c.requires.boundary c.index_mut.ensures.value in
    let x = c.index_mut.result.now in
    let y = c.copy_slot.new.self in
    let lost = row_lost _ _ _ _ x y part.within part.was s.built.stands in
    (λ is. lost ∙ c.copy_slot.ensures.lost.0 is, λ is. c.copy_slot.ensures.lost.1 (sym lost ∙ is))

pub returns-clause-copied : goal.returns-clause-copied
returns-clause-copied g c is =
    let part = part_of c.requires.sound c.requires.boundary c.index_mut.ensures.value in
    let y = c.copy_slot.new.self in
    let k = rw part.pair.number_is at c.copy_slot.ensures in
    let changed = part.changed y in
    changes_at raised c.args.boundary _ _ _ _ changed (k.copied is)

pub returns-clause-fell : goal.returns-clause-fell
returns-clause-fell g c is =
    let part = part_of c.requires.sound c.requires.boundary c.index_mut.ensures.value in
    let y = c.copy_slot.new.self in
    let k = rw part.pair.number_is at c.copy_slot.ensures in
    let changed = part.changed y in
    changes_at unfilled c.args.boundary _ _ _ _ changed (k.fell is)

pub returns-clause-fault : goal.returns-clause-fault
returns-clause-fault g c is q at fills =
    let part = part_of c.requires.sound c.requires.boundary c.index_mut.ensures.value in
    let y = c.copy_slot.new.self in
    let k = rw part.pair.number_is at c.copy_slot.ensures in
    let changed = part.changed y in
    k.filling_fell is q (ap is_filling (sym (changed.was q at)) ∙ fills)

pub returns-clause-others : goal.returns-clause-others
returns-clause-others g c q off =
    let part = part_of c.requires.sound c.requires.boundary c.index_mut.ensures.value in
    let y = c.copy_slot.new.self in
    let changed = part.changed y in
    changed.other q off

pub returns-clause-falls : goal.returns-clause-falls
returns-clause-falls g c other =
    let s = c.requires.sound in
    let part = part_of c.requires.sound c.requires.boundary c.index_mut.ensures.value in
    let x = c.index_mut.result.now in
    let y = c.copy_slot.new.self in
    row_falls _ _ _ _ x y part.within part.was s.built.stands _ _ (uncopied_falls _ _ c.copy_slot.result _ _ other c.copy_slot.ensures.leaves.falls)

pub returns-clause-stands : goal.returns-clause-stands
returns-clause-stands g c is told V st_for =
    let s = c.requires.sound in
    let part = part_of c.requires.sound c.requires.boundary c.index_mut.ensures.value in
    let x = c.index_mut.result.now in
    let y = c.copy_slot.new.self in
    let k = rw part.pair.number_is at c.copy_slot.ensures in
    let changed = part.changed y in
    let next = c.requires.next in
    stands_kept _ _ _ _ V c.args.self.now.map
    (λ t slot v. kept_at _ _ _ _ x y part.within part.was s.built.stands _ _ c.copy_slot.ensures.leaves.other_bytes t slot v
    (λ here had. elim (cases_eq slot next.have) [
      | inl same ↦ c.copy_slot.ensures.moved is slot v
          (rw same (part_filling _ _ _ _ x part.within part.was s.built.stands next))
          (λ q good. copy_told c.args.boundary q _ _ _ _ changed (k.copied is) part.pair.own _ told good) had
      | inr apart ↦ c.copy_slot.ensures.kept slot v (λ done. not_next _ _ _ _ x part.within part.was s.built.stands next slot apart) had
    ])) st_for

pub returns-clause-same : goal.returns-clause-same
returns-clause-same g c other V st_for =
    let s = c.requires.sound in
    let part = part_of c.requires.sound c.requires.boundary c.index_mut.ensures.value in
    let x = c.index_mut.result.now in
    let y = c.copy_slot.new.self in
    stands_kept _ _ _ _ V c.args.self.now.map
    (row_kept _ _ _ _ x y part.within part.was s.built.stands _ _ c.copy_slot.ensures.leaves.other_bytes (λ slot v. c.copy_slot.ensures.kept slot v (λ done. absurd (other done)))) st_for
