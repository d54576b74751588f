use Rattle.std.proofs.Common.{◌+◌, ◌<◌, length, sym, ◌∙◌, arith}
use Rattle.dg_store.proofs.LeftRows.{kept_lost, kept_skip, kept_take}
use Rattle.dg_store.proofs.Rows.{there}
use Rattle.dg_store.proofs.reductions.keep_next.Goals as goal

pub returns-then-is_lost_at : goal.returns-then-is_lost_at
returns-then-is_lost_at c was stood k =
    let l = c.args.shape.now.l in
    let slots = c.args.shape.now.k + 1 in
    let now = c.args.row.now.items in
    kept_skip l slots was stood now c.args.number c.args.kept (sym (kept_lost l slots was stood now c.args.number c.args.kept k) ∙ sym c.is_lost_at.ensures ∙ c.if-is_lost_at.true) k

pub moved-boundary-requires-clause-well : goal.moved-boundary-requires-clause-well
moved-boundary-requires-clause-well c = (c.requires.stands _ _ (there _ _ _ c.requires.within c.index.ensures)).well

pub returns : goal.returns
returns c was stood k =
    let l = c.args.shape.now.l in
    let slots = c.args.shape.now.k + 1 in
    let now = c.args.row.now.items in
    let within : c.args.number < length was = omega (arith, c.requires.within, k.count) in
    kept_take l slots was stood now c.args.number c.args.kept c.index.result.now c.moved-boundary.result
    (sym (kept_lost l slots was stood now c.args.number c.args.kept k) ∙ sym c.is_lost_at.ensures ∙ c.if-is_lost_at.false) within
    (there now c.args.number c.index.result.now c.requires.within c.index.ensures) c.moved-boundary.ensures k
