use Rattle.std.proofs.Common.{◌≡◌, length, take}
use Rattle.std.specs.List.{sum_by}
use Rattle.dg_io.specs.SinkCalls.{LeavesSink}
use Rattle.dg_io.specs.Told.{Told, Took}
use Rattle.dg_text.specs.LineCalls.{bytes_calls}
use Rattle.dg_text.specs.Replies.{file_text}
use Rattle.dg_text.proofs.replies.write_lines.Given as goal

abbrev pub invariant-loop-line : goal.invariant-loop-line
invariant-loop-line g l = record {
  told : Told (Took (file_text (take l.line-index l.lines))) (g.K.Sink.taken l.fn.sink) (g.K.Sink.taken l.sink);
  calls : LeavesSink g.K.Sink.whole g.K.Sink.calls (sum_by bytes_calls (take l.line-index l.lines)) (length (file_text (take l.line-index l.lines))) l.fn.sink l.sink;
  kept : g.K.Sink.faults l.sink ≡ g.K.Sink.faults l.fn.sink;
}
