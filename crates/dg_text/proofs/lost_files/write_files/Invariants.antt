use Rattle.std.proofs.Common.{◌≡◌, length, take}
use Rattle.std.specs.List.{sum_by}
use Rattle.dg_io.specs.SinkCalls.{LeavesSink}
use Rattle.dg_io.specs.Told.{Told, Took}
use Rattle.dg_text.specs.LineCalls.{path_calls}
use Rattle.dg_text.specs.Replies.{lost_text}
use Rattle.dg_text.proofs.lost_files.write_files.Given as goal

abbrev pub invariant-loop-file : goal.invariant-loop-file
invariant-loop-file g l = record {
  told : Told (Took (lost_text (take l.file-index l.files))) (g.K.Sink.taken l.fn.sink) (g.K.Sink.taken l.sink);
  calls : LeavesSink g.K.Sink.whole g.K.Sink.calls (sum_by path_calls (take l.file-index l.files)) (length (lost_text (take l.file-index l.files))) l.fn.sink l.sink;
  kept : g.K.Sink.faults l.sink ≡ g.K.Sink.faults l.fn.sink;
}
