use Rattle.std.proofs.Common.{◌≡◌, ℕ, Bool, arith, subst}
use Rattle.dg_stop.proofs.SettleLemmas.{MarksBelow, marks_all, marks_next, marks_none}
use Rattle.dg_stop.specs.DoubleCommits.{IsMarkedWith}
use Rattle.dg_stop.proofs.marks.marks_of_fallen.Goals as goal

pub loop-number-init : goal.loop-number-init
loop-number-init c = marks_none c.args.served.now c.args.serves.now

pub loop-number-preserved : goal.loop-number-preserved
loop-number-preserved c = marks_next c.loop-number.number c.args.served.now c.args.serves.now c.loop-number.marks c.with_mark-marks.result c.loop-number.invariant
    (subst (λ (b : Bool). IsMarkedWith c.loop-number.marks c.loop-number.number b c.with_mark-marks.result) c.fell_at.ensures c.with_mark-marks.ensures)

pub returns : goal.returns
returns c =
    let at : c.loop-number.number ≡ 32 = omega (arith, c.loop-number-test.false, c.loop-number.auto.number-end) in
    marks_all c.args.served.now c.args.serves.now c.loop-number.marks c.told-served (subst (λ (n : ℕ). MarksBelow n c.args.served.now c.args.serves.now c.loop-number.marks) at c.loop-number.invariant)
