use Rattle.std.proofs.Common.{◌≡◌, take}
use Rattle.std.specs.List.{flat_map}
use Rattle.dg_io.specs.SinkLines.{LeavesLines}
use Rattle.dg_io.specs.Told.{Told, Took}
use Rattle.dg_text.specs.Lines.{line_of}
use Rattle.dg_trace.specs.Traces.{write_of}
use Rattle.dg_trace.proofs.lines.write_blocks.Given as goal

abbrev pub invariant-loop-b : goal.invariant-loop-b
invariant-loop-b g l = record {
  told : Told (Took (flat_map (λ b. line_of (write_of l.g.fsize l.volume b)) (take l.b-index l.blocks))) (g.K.Sink.taken l.fn.sink) (g.K.Sink.taken l.sink);
  lines : LeavesLines 255 g.K.Sink.whole g.K.Sink.calls g.K.Sink.taken l.fn.sink l.sink;
  kept : g.K.Sink.faults l.sink ≡ g.K.Sink.faults l.fn.sink;
}
