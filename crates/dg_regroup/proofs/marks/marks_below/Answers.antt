use Rattle.std.proofs.Common.{◌≡◌, ℕ, subst, arith}
use Rattle.dg_regroup.proofs.MarkLemmas.{IsBelowUpto, below_begins, below_ends, below_step}
use Rattle.dg_regroup.proofs.marks.marks_below.Goals as goal

pub loop-member-init : goal.loop-member-init
loop-member-init c = below_begins c.args.live.now c.args.marks

pub loop-member-preserved : goal.loop-member-preserved
loop-member-preserved c =
    below_step c.args.live.now c.loop-member.member c.args.marks c.loop-member.below c.mark_below-below.result c.requires.ascend c.loop-member.invariant
    c.mark_below-below.ensures.marked c.mark_below-below.ensures.other

pub returns : goal.returns
returns c =
    let end : c.loop-member.member ≡ 32 = omega (arith, c.loop-member-test.false, c.loop-member.auto.member-end) in
    below_ends c.args.live.now c.args.marks c.loop-member.below c.requires.ascend (omega arith)
    (subst (λ (n : ℕ). IsBelowUpto c.args.live.now n c.args.marks c.loop-member.below) end c.loop-member.invariant)
