use Rattle.std.proofs.Common.{◌≡◌, ℕ, arith, subst}
use Rattle.dg_stop.proofs.SettleLemmas.{faults_all, faults_none}
use Rattle.dg_stop.specs.DoubleCommits.{FaultsBelow}
use Rattle.dg_stop.proofs.tallies.Tally.note_fallen.Goals as goal

pub loop-number-init : goal.loop-number-init
loop-number-init c = faults_none c.args.served.now c.args.serves.now c.args.self.now

pub returns : goal.returns
returns c =
    let at : c.loop-number.number ≡ 32 = omega (arith, c.loop-number-test.false, c.loop-number.auto.number-end) in
    faults_all c.args.served.now c.args.serves.now c.args.self.now c.loop-number.self c.told-served
    (subst (λ (n : ℕ). FaultsBelow n c.args.served.now c.args.serves.now c.args.self.now c.loop-number.self) at c.loop-number.invariant)
