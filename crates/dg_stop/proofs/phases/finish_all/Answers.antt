use Rattle.std.proofs.Common.{◌≡◌, ℕ, arith, subst, sym, ◌∙◌}
use Rattle.dg_stop.proofs.FinishLemmas.{finish_turn, finished_none}
use Rattle.dg_stop.specs.Phases.{FinishedBelow}
use Rattle.dg_stop.proofs.phases.finish_all.Goals as goal

pub loop-number-preserved : goal.loop-number-preserved
loop-number-preserved g c =
    finish_turn g.R.Rack c.args.members.now c.args.sequence c.args.room c.args.extra.now c.loop-number.number c.args.serving.now c.loop-number.serving c.finish_at.new.serving
    c.args.rack.now c.loop-number.rack c.finish_at.new.rack c.loop-number.invariant c.finish_at.ensures.made c.finish_at.ensures.calls c.finish_at.ensures.own c.finish_at.ensures.others

pub returns : goal.returns
returns g c =
    let at : c.loop-number.number ≡ 32 = omega (arith, c.loop-number-test.false, c.loop-number.auto.number-end) in
    subst (λ (n : ℕ). FinishedBelow g.R.Rack c.args.members.now c.args.sequence c.args.room c.args.extra.now n c.args.serving.now c.loop-number.serving c.args.rack.now c.loop-number.rack) at c.loop-number.invariant

pub finish_at-requires-clause-sized : goal.finish_at-requires-clause-sized
finish_at-requires-clause-sized g c = λ on.
    let was = c.loop-number.invariant.rest c.loop-number.number (omega arith) in
    was.sized (sym was.flag ∙ on)

pub loop-number-init : goal.loop-number-init
loop-number-init g c = finished_none g.R.Rack c.args.members.now c.args.sequence c.args.room c.args.extra.now c.args.serving.now c.args.rack.now c.requires.sized
