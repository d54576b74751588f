use Rattle.std.proofs.Common.{Bool, false, refl, sym, ◌∙◌, subst, arith, get_or-set_same, set}
use Rattle.std.proofs.lemmas.Option.{slice_get_read}
use Rattle.dg_io.specs.MakesLaws.{makes_none}
use Rattle.dg_stop.proofs.MadeLemmas.{on_served}
use Rattle.dg_stop.proofs.PhaseLemmas.{own_done, own_failed}
use Rattle.dg_stop.specs.Phases.{IsOnServed, SoFar, flag_in}
use Rattle.dg_stop.proofs.phases.prepare_at.Goals as goal

pub returns-then-is_err-clause-own : goal.returns-then-is_err-clause-own
returns-then-is_err-clause-own g c =
    let sized = c.requires.sized c.args.number c.if-serving-number.true in
    subst (λ (b : Bool). SoFar g.R.Rack c.args.members.now c.args.sequence c.args.room c.args.extra.now c.args.number b (flag_in (set c.args.serving.now c.args.number false) c.args.number) c.args.rack.now c.prepare.new.rack) (sym c.if-serving-number.true)
    (own_failed g.R.Rack c.args.members.now c.args.sequence c.args.room c.args.number c.args.extra.now c.index-members-number.result
    (slice_get_read c.args.members.now _ c.args.number c.index-members-number.result refl sized.there c.index-members-number.is)
    c.deref.result.now c.deref.ensures.value c.args.rack.now c.prepare.new.rack c.prepare.result (sym c.is_err.ensures.value ∙ c.if-is_err.true) c.prepare.ensures.serves c.prepare.ensures.pages
    c.prepare.ensures.prepares c.prepare.ensures.stopped (flag_in (set c.args.serving.now c.args.number false) c.args.number)
    (get_or-set_same c.args.serving.now c.args.number false false (omega (arith, c.told-serving, c.requires.number))))

pub returns-else-is_err-clause-own : goal.returns-else-is_err-clause-own
returns-else-is_err-clause-own g c =
    let sized = c.requires.sized c.args.number c.if-serving-number.true in
    subst (λ (b : Bool). SoFar g.R.Rack c.args.members.now c.args.sequence c.args.room c.args.extra.now c.args.number b b c.args.rack.now c.prepare.new.rack) (sym c.if-serving-number.true)
    (own_done g.R.Rack c.args.members.now c.args.sequence c.args.room c.args.number c.args.extra.now c.index-members-number.result
    (slice_get_read c.args.members.now _ c.args.number c.index-members-number.result refl sized.there c.index-members-number.is)
    c.deref.result.now c.deref.ensures.value c.args.rack.now c.prepare.new.rack c.prepare.result (sym c.is_err.ensures.value ∙ c.if-is_err.false) c.prepare.ensures.serves c.prepare.ensures.pages
    c.prepare.ensures.prepares c.prepare.ensures.done c.prepare.ensures.placed c.prepare.ensures.long sized)

pub returns-then-is_err-clause-made : goal.returns-then-is_err-clause-made
returns-then-is_err-clause-made g c = on_served g.R.Rack c.args.number (flag_in c.args.serving.now c.args.number) c.if-serving-number.true c.args.rack.now c.prepare.new.rack c.prepare.ensures.made

pub returns-else-is_err-clause-made : goal.returns-else-is_err-clause-made
returns-else-is_err-clause-made g c = on_served g.R.Rack c.args.number (flag_in c.args.serving.now c.args.number) c.if-serving-number.true c.args.rack.now c.prepare.new.rack c.prepare.ensures.made

pub returns-else-serving-number-clause-made : goal.returns-else-serving-number-clause-made
returns-else-serving-number-clause-made g c = makes_none g.R.Rack (IsOnServed c.args.number (flag_in c.args.serving.now c.args.number)) c.args.rack.now

pub returns-then-is_err-clause-calls : goal.returns-then-is_err-clause-calls
returns-then-is_err-clause-calls g c = rw c.if-serving-number.true c.prepare.ensures.calls

pub returns-else-is_err-clause-calls : goal.returns-else-is_err-clause-calls
returns-else-is_err-clause-calls g c = rw c.if-serving-number.true c.prepare.ensures.calls

pub returns-else-serving-number-clause-calls : goal.returns-else-serving-number-clause-calls
returns-else-serving-number-clause-calls g c = omega arith
