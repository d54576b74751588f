use Rattle.std.proofs.Common.{◌≡◌, ℕ, subst, arith}
use Rattle.dg_regroup.proofs.MarkLemmas.{IsHereUpto, few_are_there, here_ends, here_step}
use Rattle.dg_regroup.proofs.marks.marks_here.Goals as goal

pub loop-member-preserved : goal.loop-member-preserved
loop-member-preserved c =
    here_step c.args.live.now c.loop-member.member c.args.below c.loop-member.marks c.mark_here-marks.result c.loop-member.invariant
    c.mark_here-marks.ensures.marked c.mark_here-marks.ensures.other

pub returns : goal.returns
returns c =
    let end : c.loop-member.member ≡ 32 = omega (arith, c.loop-member-test.false, c.loop-member.auto.member-end) in
    here_ends c.args.live.now c.args.below c.loop-member.marks (few_are_there c.args.live.now c.requires.ascend c.requires.few)
    (subst (λ (n : ℕ). IsHereUpto c.args.live.now n c.args.below c.loop-member.marks) end c.loop-member.invariant)
