use Rattle.std.proofs.Common.{refl, sym, ◌∙◌, arith}
use Rattle.dg_store.proofs.Calls.{part_room, part_stand, row_keeps, row_lost, row_other, row_out, row_holds, row_kept_others}
use Rattle.dg_store.proofs.Rows.{there}
use Rattle.dg_store.proofs.boundaries.write_slot.Goals as goal

pub write-requires-clause-well : goal.write-requires-clause-well
write-requires-clause-well g c = (c.requires.row.stands _ _ (there _ _ _ c.requires.within c.index_mut.ensures.value)).well

pub write-requires-clause-size : goal.write-requires-clause-size
write-requires-clause-size g c = c.requires.size ∙ sym (c.requires.row.stands _ _ (there _ _ _ c.requires.within c.index_mut.ensures.value)).size_is

pub write-requires-clause-slot : goal.write-requires-clause-slot
write-requires-clause-slot g c = let h = (c.requires.row.stands _ _ (there _ _ _ c.requires.within c.index_mut.ensures.value)).slots_is in omega (arith, h)

pub write-requires-clause-room : goal.write-requires-clause-room
write-requires-clause-room g c = part_room _ _ _ _ _ c.index_mut.result.now c.requires.within (there _ _ _ c.requires.within c.index_mut.ensures.value) c.requires.row.stands c.args.shape.now _ refl refl c.requires.row.long

pub write-requires-clause-stand : goal.write-requires-clause-stand
write-requires-clause-stand g c = part_stand _ _ _ _ _ c.index_mut.result.now c.requires.within (there _ _ _ c.requires.within c.index_mut.ensures.value) c.requires.row.stands _ c.requires.row.stand

pub returns-clause-keeps : goal.returns-clause-keeps
returns-clause-keeps g c =
    row_keeps g.R.Rack c.args.shape.now _ _ _ _ _ _ c.requires.within (there _ _ _ c.requires.within c.index_mut.ensures.value) c.requires.row g.met.R.Rack.after c.write.ensures.leaves c.write.ensures.made c.write.ensures.beside

pub returns-clause-lost : goal.returns-clause-lost
returns-clause-lost g c =
    let lost = row_lost _ _ _ _ _ c.write.new.self c.requires.within (there _ _ _ c.requires.within c.index_mut.ensures.value) c.requires.row.stands in
    (λ h. lost ∙ c.write.ensures.lost.0 h, λ h. c.write.ensures.lost.1 (sym lost ∙ h))

pub returns-clause-out : goal.returns-clause-out
returns-clause-out g c lost = row_out _ _ _ _ _ _ c.requires.within (there _ _ _ c.requires.within c.index_mut.ensures.value) c.requires.row.stands (c.write.ensures.out lost)

pub returns-clause-put : goal.returns-clause-put
returns-clause-put g c = row_holds _ _ _ _ _ _ c.requires.within (there _ _ _ c.requires.within c.index_mut.ensures.value) c.requires.row.stands _ _ _ c.write.ensures.put

pub returns-clause-kept : goal.returns-clause-kept
returns-clause-kept g c =
    row_kept_others _ _ _ _ _ _ c.requires.within (there _ _ _ c.requires.within c.index_mut.ensures.value) c.requires.row.stands
    _ _ c.write.ensures.leaves.other_bytes _ c.write.ensures.kept_others

pub returns-clause-others : goal.returns-clause-others
returns-clause-others g c q off = row_other _ _ _ _ _ _ c.requires.within (there _ _ _ c.requires.within c.index_mut.ensures.value) c.requires.row.stands q off
