use Rattle.std.proofs.Common.{◌≡◌, ℕ, Bool, arith, subst}
use Rattle.dg_stop.proofs.SettleLemmas.{settles_all, settles_next, settles_none}
use Rattle.dg_stop.specs.DoubleCommits.{SettlesBelow, SettlesOne}
use Rattle.dg_stop.specs.Phases.{flag_in}
use Rattle.dg_stop.proofs.settles.settle_all.Goals as goal

pub loop-number-init : goal.loop-number-init
loop-number-init c = settles_none c.args.served.now c.args.serves.now c.args.memory.now

pub returns : goal.returns
returns c =
    let at : c.loop-number.number ≡ 32 = omega (arith, c.loop-number-test.false, c.loop-number.auto.number-end) in
    settles_all c.args.served.now c.args.serves.now c.args.memory.now c.loop-number.memory c.told-served c.told-serves
    (subst (λ (n : ℕ). SettlesBelow n c.args.served.now c.args.serves.now c.args.memory.now c.loop-number.memory) at c.loop-number.invariant)

pub loop-number-preserved : goal.loop-number-preserved
loop-number-preserved c = settles_next c.loop-number.number c.args.served.now c.args.serves.now c.args.memory.now c.loop-number.memory c.settle_at.new.memory c.loop-number.invariant
    (subst (λ (b : Bool). SettlesOne c.loop-number.number b (flag_in c.args.serves.now c.loop-number.number) c.loop-number.memory c.settle_at.new.memory) c.fell_at.ensures
    (subst (λ (b : Bool). SettlesOne c.loop-number.number c.fell_at.result b c.loop-number.memory c.settle_at.new.memory) c.has_flag.ensures c.settle_at.ensures))
