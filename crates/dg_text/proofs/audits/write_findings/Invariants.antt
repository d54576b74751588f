use Rattle.std.proofs.Common.{◌≡◌, length, take}
use Rattle.std.specs.List.{sum_by}
use Rattle.dg_io.specs.SinkCalls.{LeavesSink}
use Rattle.dg_io.specs.Told.{Told, Took}
use Rattle.dg_text.specs.Replies.{findings_text}
use Rattle.dg_text.proofs.audits.write_findings.Given as goal

abbrev pub invariant-loop-finding : goal.invariant-loop-finding
invariant-loop-finding g l = record {
  told : Told (Took (findings_text (take l.finding-index l.findings))) (g.K.Sink.taken l.fn.sink) (g.K.Sink.taken l.sink);
  calls : LeavesSink g.K.Sink.whole g.K.Sink.calls (sum_by (λ _. 1) (take l.finding-index l.findings)) (length (findings_text (take l.finding-index l.findings))) l.fn.sink l.sink;
  kept : g.K.Sink.faults l.sink ≡ g.K.Sink.faults l.fn.sink;
}
