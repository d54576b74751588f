use Rattle.std.proofs.Common.{◌≡◌, ◌∙◌, ◌<◌, ◌++◌, ℕ, List, ap, arith, inl, inr, length, refl, rules, subst}
use Rattle.std.specs.Prelude.{Option, codes}
use Rattle.std.specs.List.{concat}
use Rattle.dg_io.specs.Told.{Told, Took, TookPart}
use Rattle.dg_model.specs.Lists.{AreLines}
use Rattle.dg_model.specs.declared.events.Event.TheVariants.{Cat}
use Rattle.dg_model.specs.declared.phases.Phase.{Phase}
use Rattle.dg_model.specs.declared.replies.Reply.TheVariants.{Cut, Given}
use Rattle.dg_model.specs.declared.shapes.Shape.{Shape}
use Rattle.dg_run.proofs.ArraySteps.{steps_by, steps_of, volume_steps, weaker_steps}
use Rattle.dg_run.proofs.FileParts.{file_part, part_lines, told_lines}
use Rattle.dg_run.proofs.LentLines.{lent}
use Rattle.dg_run.proofs.Sending.{Sent, sent}
use Rattle.dg_saved.specs.PathReplies.{cat_nothing, has_reply}
use Rattle.dg_run.specs.Steps.{shape_of}
use Rattle.dg_text.specs.HexLines.{InLines, TookBytes, TookBytesPart, last_line}
use Rattle.dg_text.specs.Replies.{file_text, reply_line}
use Rattle.dg_text.specs.declared.hex_lines.HexLines.{HexLines}
use Rattle.dg_volume.specs.Volumes.{StepsBy, StepsTo, any_phase, given_of, phase_of, touched_by}
use Rattle.dg_run.proofs.cats.serve_cat.Goals as goal
use Rattle.dg_run.proofs.cats.serve_cat.Goals.{After-send_nothing}

pub returns-in-Ok-touch-clause-answered : goal.returns-in-Ok-touch-clause-answered
returns-in-Ok-touch-clause-answered g c =
    let a = c.args.array.now in
    let b = record a { volume = c.cat.new.self; hot = c.touch.new.hot } in
    let touch = touched_by (phase_of any_phase a.volume) (given_of c.cat.new.self) in
    let hot : c.touch.new.hot ≡ touch a.hot =
    c.in-Ok-touch.ensures.touched ∙ ap (λ (p : Phase). touched_by p c.given.result a.hot) c.phase-phase.ensures
    ∙ ap (λ (i : Option ℕ). touched_by (phase_of any_phase a.volume) i a.hot) c.given.ensures in
    let rule = c.in-Given.ensures.steps in
    let file = c.in-Ok.ensures.ok c.new-lines.result rule.0 c.new-lines.ensures.nothing rule.2 in
    let size = c.new-lines.ensures.l ∙ ap (λ (s : Shape). s.l) c.shape.ensures in
    let are = subst (λ (l : ℕ). AreLines l file.lines) size file.are in
    let step = subst (λ (p : List ℕ). StepsBy any_phase any_phase g.R.Rack touch a.volume (Cat p) (Given file.lines) c.cat.new.self) c.as_slice.ensures (rule.3 file.lines are file.whole) in
    let told = subst (λ k. Told (Took (file_text file.lines ++ last_line (codes "end ") c.in-Given.n)) (g.K.Sink.taken k) (g.K.Sink.taken c.end.new.self.sink.now)) c.new-lines.ensures.sink file.told in
    record {
      reply = Given file.lines;
      steps = steps_by g.R.Rack touch a b (Cat c.args.path.now) (Given file.lines) tt hot step;
      output = subst (λ k. Told (Took (reply_line (Given file.lines))) (g.K.Sink.taken c.args.sink.now) (g.K.Sink.taken k)) (search rules) (told_lines (file_text file.lines) (codes "end ") (concat file.lines) c.in-Given.n _ _ (ap length file.whole ∙ rule.1) told);
    }

pub returns-in-Err-clause-wanting : goal.returns-in-Err-clause-wanting
returns-in-Err-clause-wanting g c = λ is.
    let a = c.args.array.now in
    let b = record a { volume = c.cat.new.self; hot = c.touch.new.hot } in
    let touch = touched_by (phase_of any_phase a.volume) (given_of c.cat.new.self) in
    let rule = c.in-Given.ensures.steps in
    let file = c.in-Ok.ensures.ok c.new-lines.result rule.0 c.new-lines.ensures.nothing rule.2 in
    let size = c.new-lines.ensures.l ∙ ap (λ (s : Shape). s.l) c.shape.ensures in
    let are = subst (λ (l : ℕ). AreLines l file.lines) size file.are in
    let step = subst (λ (p : List ℕ). StepsBy any_phase any_phase g.R.Rack touch a.volume (Cat p) (Given file.lines) c.cat.new.self) c.as_slice.ensures (rule.3 file.lines are file.whole) in
    let told = subst (λ k. Told (Took (file_text file.lines ++ last_line (codes "end ") c.in-Given.n)) (g.K.Sink.taken k) (g.K.Sink.taken c.end.new.self.sink.now)) c.new-lines.ensures.sink file.told in
    inr (inl (record {
      reply = Given file.lines;
      notes = tt;
      steps = volume_steps g.R.Rack touch a b (Cat c.args.path.now) (Given file.lines) step;
      output = subst (λ k. Told (Took (reply_line (Given file.lines))) (g.K.Sink.taken c.args.sink.now) (g.K.Sink.taken k)) (search rules) (told_lines (file_text file.lines) (codes "end ") (concat file.lines) c.in-Given.n _ _ (ap length file.whole ∙ rule.1) told);
    }))

pub returns-in_default-end-clause-part : goal.returns-in_default-end-clause-part
returns-in_default-end-clause-part g c = λ is.
    let a = c.args.array.now in
    let b = record a { volume = c.cat.new.self } in
    let touch = touched_by (phase_of any_phase a.volume) (given_of c.cat.new.self) in
    let rule = c.in-Given.ensures.steps in
    let file = c.in_default-end.ensures.err c.new-lines.result rule.0 c.new-lines.ensures.nothing rule.2 in
    let size = c.new-lines.ensures.l ∙ ap (λ (s : Shape). s.l) c.shape.ensures in
    let are = subst (λ (l : ℕ). AreLines l file.lines) size file.are in
    let step = subst (λ (p : List ℕ). StepsBy any_phase any_phase g.R.Rack touch a.volume (Cat p) (Given file.lines) c.cat.new.self) c.as_slice.ensures (rule.3 file.lines are file.whole) in
    let told = subst (λ k. Told (TookPart (file_text file.lines ++ last_line (codes "end ") c.in-Given.n)) (g.K.Sink.taken k) (g.K.Sink.taken c.end.new.self.sink.now)) c.new-lines.ensures.sink file.told in
    record {
      reply = Given file.lines;
      steps = volume_steps g.R.Rack touch a b (Cat c.args.path.now) (Given file.lines) step;
      output = subst (λ k. Told (TookPart (reply_line (Given file.lines))) (g.K.Sink.taken c.args.sink.now) (g.K.Sink.taken k)) (search rules) (part_lines (file_text file.lines) (codes "end ") (concat file.lines) c.in-Given.n _ _ (ap length file.whole ∙ rule.1) told);
    }

pub returns-in-Ok-cut-clause-answered : goal.returns-in-Ok-cut-clause-answered
returns-in-Ok-cut-clause-answered g c =
    let a = c.args.array.now in
    let b = record a { volume = c.cat.new.self } in
    let rule = c.in-Cut.ensures.steps in
    let file = c.in-Ok-cut.ensures.ok c.new-lines.result rule.0 c.new-lines.ensures.nothing rule.2 in
    let size = c.new-lines.ensures.l ∙ ap (λ (s : Shape). s.l) c.shape.ensures in
    let are = subst (λ (l : ℕ). AreLines l file.lines) size file.are in
    let step = subst (λ (p : List ℕ). StepsTo any_phase any_phase g.R.Rack a.volume (Cat p) (Cut file.lines) c.cat.new.self) c.as_slice.ensures (rule.3 file.lines are file.whole) in
    let told = subst (λ k. Told (Took (file_text file.lines ++ last_line (codes "cut ") c.in-Cut.n)) (g.K.Sink.taken k) (g.K.Sink.taken c.cut.new.self.sink.now)) c.new-lines.ensures.sink file.told in
    record {
      reply = Cut file.lines;
      steps = steps_of g.R.Rack a b (Cat c.args.path.now) (Cut file.lines) tt refl step;
      output = subst (λ k. Told (Took (reply_line (Cut file.lines))) (g.K.Sink.taken c.args.sink.now) (g.K.Sink.taken k)) (search rules) (told_lines (file_text file.lines) (codes "cut ") (concat file.lines) c.in-Cut.n _ _ (ap length file.whole ∙ rule.1) told);
    }

pub returns-in-Err-cut-clause-part : goal.returns-in-Err-cut-clause-part
returns-in-Err-cut-clause-part g c = λ is.
    let a = c.args.array.now in
    let b = record a { volume = c.cat.new.self } in
    let rule = c.in-Cut.ensures.steps in
    let file = c.in-Err-cut.ensures.err c.new-lines.result rule.0 c.new-lines.ensures.nothing rule.2 in
    let size = c.new-lines.ensures.l ∙ ap (λ (s : Shape). s.l) c.shape.ensures in
    let are = subst (λ (l : ℕ). AreLines l file.lines) size file.are in
    let step = subst (λ (p : List ℕ). StepsTo any_phase any_phase g.R.Rack a.volume (Cat p) (Cut file.lines) c.cat.new.self) c.as_slice.ensures (rule.3 file.lines are file.whole) in
    let told = subst (λ k. Told (TookPart (file_text file.lines ++ last_line (codes "cut ") c.in-Cut.n)) (g.K.Sink.taken k) (g.K.Sink.taken c.cut.new.self.sink.now)) c.new-lines.ensures.sink file.told in
    record {
      reply = Cut file.lines;
      steps = weaker_steps g.R.Rack a b (Cat c.args.path.now) (Cut file.lines) (steps_of g.R.Rack a b (Cat c.args.path.now) (Cut file.lines) tt refl step);
      output = subst (λ k. Told (TookPart (reply_line (Cut file.lines))) (g.K.Sink.taken c.args.sink.now) (g.K.Sink.taken k)) (search rules) (part_lines (file_text file.lines) (codes "cut ") (concat file.lines) c.in-Cut.n _ _ (ap length file.whole ∙ rule.1) told);
    }

pub returns-in-SinkFault-clause-part : goal.returns-in-SinkFault-clause-part
returns-in-SinkFault-clause-part g c = λ is.
    let a = c.args.array.now in
    let b = record a { volume = c.cat.new.self } in
    let touch = touched_by (phase_of any_phase a.volume) (given_of c.cat.new.self) in
    let rule = c.in-SinkFault.ensures.steps in
    let file = rule.1 in
    let size : c.new-lines.result.l ≡ (shape_of a).l = c.new-lines.ensures.l ∙ ap (λ (s : Shape). s.l) c.shape.ensures in
    let some : 0 < (shape_of a).l = omega (arith, size, c.new-lines.result.within) in
    let split = subst (λ (l : ℕ). InLines l rule.0 file.tail file.lines) size (subst (λ (w : List ℕ). InLines c.new-lines.result.l (w ++ rule.0) file.tail file.lines) c.new-lines.ensures.nothing file.split) in
    let told = subst (λ k. Told (TookPart (file_text file.lines)) (g.K.Sink.taken k) (g.K.Sink.taken c.cat.new.out.sink.now)) c.new-lines.ensures.sink file.told in
    file_part g.R.Rack (shape_of a).l c.args.path.now rule.0 file.tail file.lines _ _ a b some split
    (λ all are whole. volume_steps g.R.Rack touch a b (Cat c.args.path.now) (Given all)
    (subst (λ (p : List ℕ). StepsBy any_phase any_phase g.R.Rack touch a.volume (Cat p) (Given all) c.cat.new.self) c.as_slice.ensures (rule.3 all are whole)))
    (subst (λ k. Told (TookPart (file_text file.lines)) (g.K.Sink.taken c.args.sink.now) (g.K.Sink.taken k)) (search rules) told)

-- the reply that gave nothing
nothing : (g : _) (c : After-send_nothing g) → Sent g.K.Sink g.R.Rack (Cat c.args.path.now) c.args.sink.now c.send_nothing.new.sink c.args.array.now (record c.args.array.now { volume = c.cat.new.self }) c.send_nothing.result
nothing g c =
    let a = c.args.array.now in
    let b = record a { volume = c.cat.new.self } in
    let has = has_reply c.cat.result c.in_default.not-Given c.in_default.not-Cut c.in_default.not-SinkFault in
    let rule = cat_nothing (TookBytes g.K.Sink) (TookBytesPart g.K.Sink) (λ (s : HexLines g.row.K.Denot). g.K.Sink.faults s.sink.now) c.new-lines.result c.cat.new.out
    (shape_of a).l (λ reply. StepsBy any_phase any_phase g.R.Rack (touched_by (phase_of any_phase a.volume) (given_of c.cat.new.self)) a.volume (Cat c.as_slice.result.now) reply c.cat.new.self)
    (λ reply. StepsTo any_phase any_phase g.R.Rack a.volume (Cat c.as_slice.result.now) reply c.cat.new.self) c.cat.result has c.cat.ensures.steps in
    let s = c.send_nothing in
    sent g.K.Sink g.R.Rack (Cat c.args.path.now) has.reply a b s.result (steps_of g.R.Rack a b (Cat c.args.path.now) has.reply tt refl (rw c.as_slice.ensures at rule.1))
    (s.ensures.ok has.reply has.is) (s.ensures.part has.reply has.is) s.ensures.err s.ensures.lines (search (rules, rule.0))

pub returns-in_default-clause-answered : goal.returns-in_default-clause-answered
returns-in_default-clause-answered g c = (nothing g c).answered

pub returns-in_default-clause-part : goal.returns-in_default-clause-part
returns-in_default-clause-part g c = (nothing g c).part

pub returns-in_default-clause-lines : goal.returns-in_default-clause-lines
returns-in_default-clause-lines g c = (nothing g c).lines

pub returns-in-Ok-touch-clause-lines : goal.returns-in-Ok-touch-clause-lines
returns-in-Ok-touch-clause-lines g c none =
    let rule = c.in-Given.ensures.steps in
    let file = c.in-Ok.ensures.ok c.new-lines.result rule.0 c.new-lines.ensures.nothing rule.2 in
    lent g.K.Sink _ _ c.end.new.self.sink.now _ c.new-lines.ensures.sink file.few_lines (search rules)

pub returns-in-Err-clause-lines : goal.returns-in-Err-clause-lines
returns-in-Err-clause-lines g c none =
    let rule = c.in-Given.ensures.steps in
    let file = c.in-Ok.ensures.ok c.new-lines.result rule.0 c.new-lines.ensures.nothing rule.2 in
    lent g.K.Sink _ _ c.end.new.self.sink.now _ c.new-lines.ensures.sink file.few_lines (search rules)

pub returns-in-Ok-cut-clause-lines : goal.returns-in-Ok-cut-clause-lines
returns-in-Ok-cut-clause-lines g c none =
    let rule = c.in-Cut.ensures.steps in
    let file = c.in-Ok-cut.ensures.ok c.new-lines.result rule.0 c.new-lines.ensures.nothing rule.2 in
    lent g.K.Sink _ _ c.cut.new.self.sink.now _ c.new-lines.ensures.sink file.few_lines (search rules)
