use Rattle.std.proofs.Common.{◌≡◌, ◌∙◌, ap, inl, inr, sym}
use Rattle.std.specs.Prelude.{Err}
use Rattle.dg_io.specs.SinkLines.{lines_both}
use Rattle.dg_run.proofs.Laters.{continues_none}
use Rattle.dg_run.specs.declared.events.Fault.TheVariants.{Read, Write}
use Rattle.dg_run.proofs.resumes.resume_array.Goals as goal

pub returns-in_default-clause-goes : goal.returns-in_default-clause-goes
returns-in_default-clause-goes g c = continues_none g.R.Rack g.met.R.Rack.made_none g.met.R.Rack.made_both g.met.R.Rack.after c.args.array.now c.requires.ready

pub returns-clause-broken : goal.returns-clause-broken
returns-clause-broken g c is = c.serve_lines.ensures.broken (c.in-Err.is ∙ ap Err (c.status_of.ensures.read.0 is))

pub returns-clause-part : goal.returns-clause-part
returns-clause-part g c is = inl (c.serve_lines.ensures.part (c.in-Err.is ∙ ap Err (c.status_of.ensures.write.0 is)))

pub returns-in-Ok-Refused-clause-sink_kept : goal.returns-in-Ok-Refused-clause-sink_kept
returns-in-Ok-Refused-clause-sink_kept g c none = c.refuse.ensures.kept none ∙ c.serve_lines.ensures.sink_kept (λ at. let both = sym c.in-Ok-Refused.is ∙ at in cc both)

pub returns-clause-wanting : goal.returns-clause-wanting
returns-clause-wanting g c is = inr (c.serve_lines.ensures.wanting (c.in-Err.is ∙ ap Err (c.status_of.ensures.memory.0 is)))

pub returns-clause-source_kept : goal.returns-clause-source_kept
returns-clause-source_kept g c none = c.serve_lines.ensures.source_kept (λ at.
    let same : c.in-Err.fault ≡ Read = let both : Err c.in-Err.fault ≡ Err Read = sym c.in-Err.is ∙ at in cc both in
    none (c.status_of.ensures.read.1 same))

pub returns-clause-sink_kept : goal.returns-clause-sink_kept
returns-clause-sink_kept g c none = c.serve_lines.ensures.sink_kept (λ at.
    let same : c.in-Err.fault ≡ Write = let both : Err c.in-Err.fault ≡ Err Write = sym c.in-Err.is ∙ at in cc both in
    none (c.status_of.ensures.write.1 same))

pub returns-in-Ok-Refused-clause-lines : goal.returns-in-Ok-Refused-clause-lines
returns-in-Ok-Refused-clause-lines g c none =
    lines_both 255 g.K.Sink.whole g.K.Sink.calls g.K.Sink.taken c.args.sink.now c.serve_lines.new.sink c.refuse.new.sink
    (c.serve_lines.ensures.lines (λ at. let both = sym c.in-Ok-Refused.is ∙ at in cc both)) (c.refuse.ensures.lines none)

pub returns-clause-lines : goal.returns-clause-lines
returns-clause-lines g c none = c.serve_lines.ensures.lines (λ at.
    let same : c.in-Err.fault ≡ Write = let both : Err c.in-Err.fault ≡ Err Write = sym c.in-Err.is ∙ at in cc both in
    none (c.status_of.ensures.write.1 same))
