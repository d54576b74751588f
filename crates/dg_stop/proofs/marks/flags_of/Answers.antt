use Rattle.std.proofs.Common.{◌≡◌, ℕ, arith, subst}
use Rattle.dg_stop.proofs.SettleLemmas.{FlagsBelow, flags_all, flags_next}
use Rattle.dg_stop.proofs.marks.flags_of.Goals as goal

pub loop-number-preserved : goal.loop-number-preserved
loop-number-preserved c = flags_next c.loop-number.number c.args.marks c.loop-number.flags c.is_marked_at.result (omega (arith, c.loop-number-test.true)) c.is_marked_at.ensures c.loop-number.invariant

pub returns : goal.returns
returns c =
    let at : c.loop-number.number ≡ 32 = omega (arith, c.loop-number-test.false, c.loop-number.auto.number-end) in
    flags_all c.args.marks c.loop-number.flags (omega arith) (subst (λ (n : ℕ). FlagsBelow n c.args.marks c.loop-number.flags) at c.loop-number.invariant)
