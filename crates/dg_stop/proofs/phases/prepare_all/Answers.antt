use Rattle.std.proofs.Common.{◌≡◌, ℕ, arith, subst}
use Rattle.dg_stop.proofs.PhaseLemmas.{passed_none, turn}
use Rattle.dg_stop.specs.Phases.{PassedBelow}
use Rattle.dg_stop.proofs.phases.prepare_all.Goals as goal

pub loop-number-preserved : goal.loop-number-preserved
loop-number-preserved g c =
    turn g.R.Rack c.args.members.now c.args.sequence c.args.room c.args.extra.now c.loop-number.number c.args.serving.now c.loop-number.serving c.prepare_at.new.serving
    c.args.rack.now c.loop-number.rack c.prepare_at.new.rack c.loop-number.invariant c.prepare_at.ensures.made c.prepare_at.ensures.calls c.prepare_at.ensures.own c.prepare_at.ensures.others

pub returns : goal.returns
returns g c =
    let at : c.loop-number.number ≡ 32 = omega (arith, c.loop-number-test.false, c.loop-number.auto.number-end) in
    subst (λ (n : ℕ). PassedBelow g.R.Rack c.args.members.now c.args.sequence c.args.room c.args.extra.now n c.args.serving.now c.loop-number.serving c.args.rack.now c.loop-number.rack) at c.loop-number.invariant

pub loop-number-init : goal.loop-number-init
loop-number-init g c = passed_none g.R.Rack c.args.members.now c.args.sequence c.args.room c.args.extra.now c.args.serving.now c.args.rack.now c.requires.sized
