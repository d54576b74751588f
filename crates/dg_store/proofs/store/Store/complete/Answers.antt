use Rattle.std.proofs.Common.{refl, sym, ◌∙◌, arith}
use Rattle.dg_store.specs.ReadLaws.{own_none, rack_none}
use Rattle.dg_store.proofs.Blocks.{stands_below}
use Rattle.dg_store.proofs.Calls.{kept_at, part_stand, row_is}
use Rattle.dg_store.proofs.Refills.{changes_at, part_full, same_told}
use Rattle.dg_store.proofs.Parts.{part_of}
use Rattle.dg_store.proofs.Sound.{row_of, sound_of}
use Rattle.dg_pair.specs.Boundaries.{completed}
use Rattle.dg_store.proofs.store.Store.complete.Goals as goal

pub complete-requires-clause-well : goal.complete-requires-clause-well
complete-requires-clause-well g c =
    let part = part_of c.requires.sound c.requires.boundary c.index_mut.ensures.value in
    part.pair.well

pub complete-requires-clause-full : goal.complete-requires-clause-full
complete-requires-clause-full g c =
    let part = part_of c.requires.sound c.requires.boundary c.index_mut.ensures.value in
    part_full _ _ _ _ c.index_mut.result.now part.within part.was c.requires.sound.built.stands c.requires.all

pub returns-clause-sound : goal.returns-clause-sound
returns-clause-sound g c =
    let s = c.requires.sound in
    let part = part_of c.requires.sound c.requires.boundary c.index_mut.ensures.value in
    let x = c.index_mut.result.now in
    let y = c.complete.new.self in
    let row = c.args.self.now.row.items in
    let changed = part.changed y in
    let keeps = c.complete.ensures.keeps in
    sound_of g.R.Rack g.met.R.Rack.told _ s.table
    (row_is g.R.Rack c.args.self.now.map.shape c.args.boundary row x y _ _ part.within part.was (row_of g.R.Rack c.args.self.now s) keeps
    (λ q serving. part_stand _ _ _ _ _ x part.within part.was s.built.stands _ s.stand q (λ out. serving (c.complete.ensures.out_stays q out)))
    (λ q off stands. stands) (λ q off. same_told _)
    (λ q here serving. s.long q (λ out. serving (c.complete.ensures.out_stays q (sym (changed.was q here) ∙ out)))))
    s.built.block s.built.given_up

pub returns-clause-stays : goal.returns-clause-stays
returns-clause-stays g c = record { shape = refl; stays = rack_none g.R.Rack c.args.self.now.rack; own = own_none g.R.Rack c.args.self.now.map.shape.b c.args.self.now.rack }

pub returns-clause-completed : goal.returns-clause-completed
returns-clause-completed g c =
    let part = part_of c.requires.sound c.requires.boundary c.index_mut.ensures.value in
    let y = c.complete.new.self in
    let k = rw part.pair.number_is at c.complete.ensures in
    let changed = part.changed y in
    changes_at completed c.args.boundary _ _ _ _ changed k.completed

pub returns-clause-stands : goal.returns-clause-stands
returns-clause-stands g c V st_for =
    let s = c.requires.sound in
    let part = part_of c.requires.sound c.requires.boundary c.index_mut.ensures.value in
    let x = c.index_mut.result.now in
    let y = c.complete.new.self in
    stands_below _ _ _ _ V c.args.self.now.map s.table
    (λ t slot v low. kept_at _ _ _ _ x y part.within part.was s.built.stands _ _ (λ q off. same_told _) t slot v
    (λ here had. c.complete.ensures.kept _ slot v (omega (arith, part.pair.slots_is, low)) had)) st_for
