use Rattle.std.proofs.Common.{◌∙◌, ap, subst, sym}
use Rattle.dg_label.specs.Labels.{IsLabeled}
use Rattle.dg_label.specs.Seals.{AnswersSave}
use Rattle.dg_label.specs.declared.saves.SaveAnswer.{SaveAnswer}
use Rattle.dg_model.specs.declared.events.Event.TheVariants.{Save}
use Rattle.dg_model.specs.declared.shapes.Shape.{Shape}
use Rattle.dg_volume.proofs.SaveLaws.{save_leaves, save_steps}
use Rattle.dg_volume.proofs.VolumeLaws.{leaves_none}
use Rattle.dg_volume.specs.Copies.{StepsHot}
use Rattle.dg_volume.specs.HeldLaws.{leaves_or_extend}
use Rattle.dg_volume.specs.Saves.{save_reply}
use Rattle.dg_volume.proofs.volumes.Volume.save.Goals as goal

pub returns-clause-leaves : goal.returns-clause-leaves
returns-clause-leaves g c =
    let k = c.in_ok-answer.ensures in
    save_leaves g.S.InPhase g.R.Rack c.args.self.now c.save.new.store c.save.new.label k.array c.requires.well (subst (λ (x : Shape). IsLabeled g.R.Rack x c.save.new.store c.save.new.label) (c.line-line.ensures ∙ ap (λ (s : Shape). record s { b = c.args.self.now.in_use.long }) c.shape.ensures) k.labeled)

pub returns-in_err-answer-clause-leaves : goal.returns-in_err-answer-clause-leaves
returns-in_err-answer-clause-leaves g c =
    let k = c.in_err-answer.ensures in
    save_leaves g.S.InPhase g.R.Rack c.args.self.now c.save.new.store c.save.new.label k.array c.requires.well (subst (λ (x : Shape). IsLabeled g.R.Rack x c.save.new.store c.save.new.label) (c.line-line.ensures ∙ ap (λ (s : Shape). record s { b = c.args.self.now.in_use.long }) c.shape.ensures) k.labeled)

pub returns-clause-steps : goal.returns-clause-steps
returns-clause-steps g c =
    let a = c.args.self.now in
    let k = c.in_ok-answer.ensures in
    subst (λ (r : SaveAnswer). StepsHot g.S.InPhase g.S.InPhase g.R.Rack c.args.hot.now a Save (save_reply r) (record a { store = c.save.new.store; label = c.save.new.label })) (sym c.saved.ensures)
    (save_steps g.S.InPhase g.R.Rack a c.save.new.store c.save.new.label k.array c.args.hot.now c.deref.result.now c.in_ok-answer.answer
    c.requires.well (c.deref.ensures.value ∙ c.in_ok-body.ensures.says) c.in_ok-body.ensures.form
    (subst (λ (x : Shape). AnswersSave g.R.Rack x c.deref.result.now a.store c.save.new.store a.label c.save.new.label c.in_ok-answer.answer) (c.line-line.ensures ∙ ap (λ (s : Shape). record s { b = c.args.self.now.in_use.long }) c.shape.ensures) k.answer))

pub returns-in_err-body-clause-leaves : goal.returns-in_err-body-clause-leaves
returns-in_err-body-clause-leaves g c =
    leaves_or_extend g.S.InPhase g.S.InPhase g.R.Rack c.args.self.now c.args.self.now (leaves_none g.S.InPhase g.R.Rack c.args.self.now c.requires.well)

pub save-requires-clause-labeled : goal.save-requires-clause-labeled
save-requires-clause-labeled g c =
    let a = c.args.self.now in
    subst (λ (x : Shape). IsLabeled g.R.Rack x a.store a.label) (sym (c.line-line.ensures ∙ ap (λ (s : Shape). record s { b = c.args.self.now.in_use.long }) c.shape.ensures)) c.requires.well.labeled
