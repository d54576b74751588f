use Rattle.std.proofs.Common.{◌+◌, List, arith, sym, subst}
use Rattle.dg_stop.proofs.AttachLemmas.{CopiedBelow, copied_all, copied_next, copied_none}
use Rattle.dg_stop.specs.declared.places.Places.{Places}
use Rattle.dg_stop.proofs.attachments.copy_all.Goals as goal

pub loop-member-init : goal.loop-member-init
loop-member-init c = copied_none c.args.all.now c.new-copies.result.items (omega (arith, c.new-copies.ensures))

pub loop-member-preserved : goal.loop-member-preserved
loop-member-preserved c =
    subst (λ (l : List Places). CopiedBelow (c.loop-member.member + 1) c.args.all.now l) (sym c.in_ok-add.ensures)
    (copied_next c.loop-member.member c.args.all.now c.loop-member.copies.items c.in_ok-copy.copy c.in_ok-copy.ensures c.loop-member.invariant)

pub returns : goal.returns
returns c = copied_all c.loop-member.member c.args.all.now c.loop-member.copies.items (omega (arith, c.loop-member-test.false, c.loop-member.auto.member-end)) c.requires.count c.loop-member.invariant
