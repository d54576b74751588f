use Rattle.std.proofs.Common.{◌∙◌, arith, refl, sym}
use Rattle.dg_claims.specs.Kept.{table_of}
use Rattle.ufs_check.proofs.ReachLaws.{placed, pointer_level, reaches_no_claim, reaches_no_upper, reaches_other_level, reaches_slot, reaches_through}
use Rattle.ufs_check.proofs.reaches.+first_through.Goals as goal

pub returns-in_err-upper-in-Pointer-clause-reaches : goal.returns-in_err-upper-in-Pointer-clause-reaches
returns-in_err-upper-in-Pointer-clause-reaches t c = λ v has.
    reaches_no_claim c.args.g.now (table_of c.args.claims.now) v c.args.source c.in-Pointer.fragment c.in-Pointer.level c.in-Pointer.at _ c.in-Pointer.is c.from_residual.ensures has
    c.in_err-upper-in-Pointer.ensures.none

pub returns-then-level-clause-reaches : goal.returns-then-level-clause-reaches
returns-then-level-clause-reaches t c = λ v has.
    reaches_other_level c.args.g.now (table_of c.args.claims.now) v c.args.source c.in_ok-upper-in-Pointer.upper c.in-Pointer.fragment c.in-Pointer.level c.in-Pointer.at _ c.in-Pointer.is refl has
    c.in_ok-upper-in-Pointer.ensures.only (λ same. c.if-level.true (c.level.ensures ∙ same))

pub returns-in_err-inode-in-Pointer-clause-reaches : goal.returns-in_err-inode-in-Pointer-clause-reaches
returns-in_err-inode-in-Pointer-clause-reaches t c = λ v has.
    reaches_no_upper c.args.g.now (table_of c.args.claims.now) v c.args.source c.in_ok-upper-in-Pointer.upper c.in-Pointer.fragment c.in-Pointer.level c.in-Pointer.at _ c.in-Pointer.is
    c.from_residual-in_err-inode-in-Pointer.ensures has c.in_ok-upper-in-Pointer.ensures.only (c.in_err-inode-in-Pointer.ensures.reaches v has)

pub returns-in-Slot-clause-reaches : goal.returns-in-Slot-clause-reaches
returns-in-Slot-clause-reaches t c = λ v has. reaches_slot c.args.g.now v c.args.source c.in-Slot.inode c.in-Slot.slot c.first_block.result c.in-Slot.is c.first_block.ensures

pub returns-in_ok-inode-in-Pointer-clause-reaches : goal.returns-in_ok-inode-in-Pointer-clause-reaches
returns-in_ok-inode-in-Pointer-clause-reaches t c = λ v has.
    let g = c.args.g.now in
    let table = table_of c.args.claims.now in
    let upper = c.in_ok-upper-in-Pointer.upper in
    let f = c.in-Pointer.fragment in
    let of_level = sym c.level.ensures ∙ c.if-level.false in
    let above = pointer_level g c.args.source _ _ _ c.in-Pointer.is c.requires.source in
    let row = c.place_in-place.ensures.row in
    let here = placed g table v upper f c.place_in-place.result (row.first) (row.count) has ((has f upper).0 c.in_ok-upper-in-Pointer.ensures.only.claim)
    (omega (arith, of_level, above)) row.are c.place_in-place.ensures.place in
    reaches_through g table v c.args.source upper f c.in-Pointer.level c.in-Pointer.at c.place_in-place.result
    c.in_ok-inode-in-Pointer.inode c.in_ok-inode-in-Pointer.first c.blocks_before.result c.in-Pointer.is has c.in_ok-upper-in-Pointer.ensures.only of_level above
    here (c.in_ok-inode-in-Pointer.ensures.reaches v has) c.blocks_before.ensures.value
