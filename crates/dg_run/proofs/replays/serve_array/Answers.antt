use Rattle.std.proofs.Common.{◌≡◌, ◌∙◌, ap, inl, inr, refl, sym}
use Rattle.std.specs.Prelude.{Err}
use Rattle.dg_model.specs.declared.replies.Reply.TheVariants.{Done}
use Rattle.dg_text.specs.Replies.{reply_line}
use Rattle.dg_run.specs.declared.events.Fault.TheVariants.{Write, NoMemory, Read}
use Rattle.dg_io.specs.SinkLines.{lines_both}
use Rattle.dg_run.proofs.Breaks.{broke_off_behind, cut_behind, ran_out_behind}
use Rattle.dg_io.specs.Told.{AreAny}
use Rattle.dg_run.proofs.ToldSteps.{Told-refl, any_left}
use Rattle.dg_run.specs.Inputs.{ahead, unread}
use Rattle.dg_run.proofs.Laters.{continues_none}
use Rattle.dg_run.proofs.replays.serve_array.Goals as goal

pub returns-clause-part : goal.returns-clause-part
returns-clause-part g c = λ is.
    let fault : c.in-Err.fault ≡ Write = c.status_of.ensures.write.0 is in
    let lines = c.serve_lines.ensures.part (c.in-Err.is ∙ ap Err fault) in
    inr (inl (cut_behind g.R.Rack (reply_line Done) _ c.args.first _ _ _ _ _ _ _ c.in-Ok-send.ensures.ok lines))

pub returns-clause-wanting : goal.returns-clause-wanting
returns-clause-wanting g c = λ is.
    let fault : c.in-Err.fault ≡ NoMemory = c.status_of.ensures.memory.0 is in
    let lines = c.serve_lines.ensures.wanting (c.in-Err.is ∙ ap Err fault) in
    inr (ran_out_behind g.R.Rack (reply_line Done) _ c.args.first _ _ _ _ _ _ _ c.in-Ok-send.ensures.ok lines)

pub returns-in_default-send-clause-part : goal.returns-in_default-send-clause-part
returns-in_default-send-clause-part g c = λ is.
    inl (c.in_default-send.ensures.part, refl, any_left AreAny (unread c.args.input.now) _ _ (Told-refl AreAny (λ b. tt) (ahead c.args.input.now (g.S.Source.left c.args.source.now))))

pub returns-in_default-clause-goes : goal.returns-in_default-clause-goes
returns-in_default-clause-goes g c = continues_none g.R.Rack g.met.R.Rack.made_none g.met.R.Rack.made_both g.met.R.Rack.after c.args.array.now c.requires.ready

pub returns-in_default-send-clause-goes : goal.returns-in_default-send-clause-goes
returns-in_default-send-clause-goes g c = continues_none g.R.Rack g.met.R.Rack.made_none g.met.R.Rack.made_both g.met.R.Rack.after c.args.array.now c.requires.ready

pub returns-clause-broken : goal.returns-clause-broken
returns-clause-broken g c = λ is.
    let fault : c.in-Err.fault ≡ Read = c.status_of.ensures.read.0 is in
    let lines = c.serve_lines.ensures.broken (c.in-Err.is ∙ ap Err fault) in
    broke_off_behind g.R.Rack (reply_line Done) _ c.args.first _ _ _ _ _ _ _ c.in-Ok-send.ensures.ok lines

pub returns-in-Ok-Input-clause-lines : goal.returns-in-Ok-Input-clause-lines
returns-in-Ok-Input-clause-lines g c none =
    lines_both 255 g.K.Sink.whole g.K.Sink.calls g.K.Sink.taken c.args.sink.now c.send.new.sink c.serve_lines.new.sink c.in-Ok-send.ensures.lines
    (c.serve_lines.ensures.lines (λ at. let both = sym c.in-Ok-Input.is ∙ at in cc both))

pub returns-in-Ok-Refused-clause-sink_kept : goal.returns-in-Ok-Refused-clause-sink_kept
returns-in-Ok-Refused-clause-sink_kept g c none =
    c.refuse.ensures.kept none ∙ c.serve_lines.ensures.sink_kept (λ at. let both = sym c.in-Ok-Refused.is ∙ at in cc both) ∙ c.in-Ok-send.ensures.kept

pub returns-in-Ok-Refused-clause-lines : goal.returns-in-Ok-Refused-clause-lines
returns-in-Ok-Refused-clause-lines g c none =
    let served = c.serve_lines.ensures.lines (λ at. let both = sym c.in-Ok-Refused.is ∙ at in cc both) in
    lines_both 255 g.K.Sink.whole g.K.Sink.calls g.K.Sink.taken c.args.sink.now c.send.new.sink c.refuse.new.sink c.in-Ok-send.ensures.lines
    (lines_both 255 g.K.Sink.whole g.K.Sink.calls g.K.Sink.taken c.send.new.sink c.serve_lines.new.sink c.refuse.new.sink served (c.refuse.ensures.lines none))

pub returns-clause-source_kept : goal.returns-clause-source_kept
returns-clause-source_kept g c none = c.serve_lines.ensures.source_kept (λ at.
    let same : c.in-Err.fault ≡ Read = let both : Err c.in-Err.fault ≡ Err Read = sym c.in-Err.is ∙ at in cc both in
    none (c.status_of.ensures.read.1 same))

pub returns-clause-sink_kept : goal.returns-clause-sink_kept
returns-clause-sink_kept g c none = c.serve_lines.ensures.sink_kept (λ at.
    let same : c.in-Err.fault ≡ Write = let both : Err c.in-Err.fault ≡ Err Write = sym c.in-Err.is ∙ at in cc both in
    none (c.status_of.ensures.write.1 same)) ∙ c.in-Ok-send.ensures.kept

pub returns-clause-lines : goal.returns-clause-lines
returns-clause-lines g c none =
    lines_both 255 g.K.Sink.whole g.K.Sink.calls g.K.Sink.taken c.args.sink.now c.send.new.sink c.serve_lines.new.sink c.in-Ok-send.ensures.lines (c.serve_lines.ensures.lines (λ at.
    let same : c.in-Err.fault ≡ Write = let both : Err c.in-Err.fault ≡ Err Write = sym c.in-Err.is ∙ at in cc both in
    none (c.status_of.ensures.write.1 same)))
