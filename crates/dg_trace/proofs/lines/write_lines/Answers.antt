use Rattle.std.proofs.Common.{◌≡◌, ◌<◌, ◌∙◌, ℕ, List, ap, subst, sym}
use Rattle.std.specs.Prelude.{All}
use Rattle.dg_model.specs.declared.events.Event.TheVariants.{Array}
use Rattle.dg_text.specs.Lines.{input_of, line_of}
use Rattle.dg_text.specs.ToldSteps.{on_err, took_part_of_more}
use Rattle.dg_trace.specs.Traces.{trace_events, writes_of}
use Rattle.dg_trace.proofs.LineSteps.{part_none, then_ok, then_part}
use Rattle.dg_trace.proofs.OrderLaws.{trace_below}
use Rattle.ufs_build.specs.Traces.{trace_of}
use Rattle.dg_trace.proofs.lines.write_lines.Goals as goal

pub returns-in_default-clause-part : goal.returns-in_default-clause-part
returns-in_default-clause-part g c = part_none (input_of (trace_events c.args.order c.args.g.now c.args.shape c.args.volume.now)) (g.K.Sink.taken c.args.sink.now)

pub returns-in_err-write_line-clause-part : goal.returns-in_err-write_line-clause-part
returns-in_err-write_line-clause-part g c =
    on_err c.from_residual.result
    (took_part_of_more (line_of (Array c.args.shape)) (input_of (writes_of c.args.g.now.fsize c.args.volume.now (trace_of c.args.order c.args.g.now c.args.volume.now)))
    _ _ c.in_err-write_line.ensures.part)

pub write_blocks-requires-clause-blocks : goal.write_blocks-requires-clause-blocks
write_blocks-requires-clause-blocks g c =
    let same : c.deref.result.now ≡ trace_of c.args.order c.args.g.now c.args.volume.now = c.deref.ensures.value ∙ c.in-Ok.ensures in
    subst (λ (l : List ℕ). All (λ b. b < c.args.g.now.size) l) (sym same) (trace_below c.args.order c.args.g.now c.args.volume.now)

pub returns-clause-ok : goal.returns-clause-ok
returns-clause-ok g c =
    let same : c.deref.result.now ≡ trace_of c.args.order c.args.g.now c.args.volume.now = c.deref.ensures.value ∙ c.in-Ok.ensures in
    then_ok c.write_blocks.result (line_of (Array c.args.shape)) (input_of (writes_of c.args.g.now.fsize c.args.volume.now c.deref.result.now))
    (input_of (writes_of c.args.g.now.fsize c.args.volume.now (trace_of c.args.order c.args.g.now c.args.volume.now))) _ _ _
    (ap (λ (l : List ℕ). input_of (writes_of c.args.g.now.fsize c.args.volume.now l)) same) c.in_ok-write_line.ensures.ok c.write_blocks.ensures.ok

pub returns-clause-part : goal.returns-clause-part
returns-clause-part g c =
    let same : c.deref.result.now ≡ trace_of c.args.order c.args.g.now c.args.volume.now = c.deref.ensures.value ∙ c.in-Ok.ensures in
    then_part c.write_blocks.result (line_of (Array c.args.shape)) (input_of (writes_of c.args.g.now.fsize c.args.volume.now c.deref.result.now))
    (input_of (writes_of c.args.g.now.fsize c.args.volume.now (trace_of c.args.order c.args.g.now c.args.volume.now))) _ _ _
    (ap (λ (l : List ℕ). input_of (writes_of c.args.g.now.fsize c.args.volume.now l)) same) c.in_ok-write_line.ensures.ok c.write_blocks.ensures.part
