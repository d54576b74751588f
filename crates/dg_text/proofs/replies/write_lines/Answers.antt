use Rattle.std.proofs.Common.{ap, ◌∙◌, ◌+◌}
use Rattle.dg_text.specs.Replies.{bytes_line}
use Rattle.dg_text.specs.ToldSteps.{on_err}
use Rattle.dg_text.specs.LineCalls.{bytes_calls}
use Rattle.dg_text.proofs.CallSums.{calls_more, calls_within}
use Rattle.dg_text.proofs.FileLines.{took_line_more, took_part_of_lines}
use Rattle.dg_text.proofs.replies.write_lines.Goals as goal

pub returns-in_err-write_bytes_line-clause-err : goal.returns-in_err-write_bytes_line-clause-err
returns-in_err-write_bytes_line-clause-err g c =
    on_err c.from_residual.result
    (took_part_of_lines bytes_line c.args.lines.now c.loop-line.line-index c.line-item.result (bytes_line c.as_slice.result.now) c.loop-line-test.true c.line-item.is (ap bytes_line c.as_slice.ensures)
    _ _ _ c.loop-line.invariant.told c.in_err-write_bytes_line.ensures.err)

pub returns-in_err-write_bytes_line-clause-calls : goal.returns-in_err-write_bytes_line-clause-calls
returns-in_err-write_bytes_line-clause-calls g c =
    calls_within g.K.Sink.whole g.K.Sink.calls bytes_line bytes_calls c.args.lines.now (c.loop-line.line-index + 1) _ _
    (calls_more g.K.Sink.whole g.K.Sink.calls bytes_line bytes_calls c.args.lines.now c.loop-line.line-index c.line-item.result (bytes_line c.as_slice.result.now) _ _ _ _
    c.loop-line-test.true c.line-item.is (ap bytes_line c.as_slice.ensures) (ap bytes_calls c.as_slice.ensures) c.loop-line.invariant.calls c.in_err-write_bytes_line.ensures.calls)

pub loop-line-preserved : goal.loop-line-preserved
loop-line-preserved g c = record {
  told = took_line_more bytes_line c.args.lines.now c.loop-line.line-index c.line-item.result (bytes_line c.as_slice.result.now) c.loop-line-test.true c.line-item.is
      (ap bytes_line c.as_slice.ensures) _ _ _ c.loop-line.invariant.told c.in_ok-write_bytes_line.ensures.ok;
  calls = calls_more g.K.Sink.whole g.K.Sink.calls bytes_line bytes_calls c.args.lines.now c.loop-line.line-index c.line-item.result (bytes_line c.as_slice.result.now) _ _ _ _
      c.loop-line-test.true c.line-item.is (ap bytes_line c.as_slice.ensures) (ap bytes_calls c.as_slice.ensures) c.loop-line.invariant.calls c.in_ok-write_bytes_line.ensures.calls;
  kept = c.in_ok-write_bytes_line.ensures.cause.kept ∙ c.loop-line.invariant.kept;
}

pub returns-clause-calls : goal.returns-clause-calls
returns-clause-calls g c = calls_within g.K.Sink.whole g.K.Sink.calls bytes_line bytes_calls c.args.lines.now c.loop-line.line-index _ _ c.loop-line.invariant.calls
