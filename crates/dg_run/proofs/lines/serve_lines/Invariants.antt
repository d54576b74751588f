use Rattle.std.proofs.Common.{◌≡◌, ◌≤◌, ◌+◌, ◌-◌, ◌^◌, length}
use Rattle.dg_io.specs.SinkLines.{LeavesLines}
use Rattle.dg_io.specs.SourceReads.{LeavesSource}
use Rattle.dg_run.specs.Histories.{Continues}
use Rattle.dg_run.specs.Inputs.{ahead}
use Rattle.dg_run.specs.Steps.{shape_of}
use Rattle.dg_run.proofs.Runs.{SoFar}
use Rattle.dg_run.proofs.lines.serve_lines.Given as goal

abbrev pub invariant-loop-passed : goal.invariant-loop-passed
invariant-loop-passed g l = record {
  goes : Continues g.R.Rack l.fn.array l.array;
  size : length l.block ≡ (shape_of l.fn.array).l;
  budget : l.passed ≤ 2 ^ 40;
  number : l.number ≤ l.passed + 2;
  so_far : SoFar g.R.Rack (shape_of l.fn.array) l.first l.from l.passed l.number (ahead l.fn.input (g.S.Source.left l.fn.source)) (ahead l.input (g.S.Source.left l.source)) (g.K.Sink.taken l.fn.sink) (g.K.Sink.taken l.sink) l.fn.array l.array;
  lines : LeavesLines 255 g.K.Sink.whole g.K.Sink.calls g.K.Sink.taken l.fn.sink l.sink;
  reads : LeavesSource g.S.Source.calls g.S.Source.left 0 l.fn.source l.source;
  source_kept : g.S.Source.faults l.source ≡ g.S.Source.faults l.fn.source;
  sink_kept : g.K.Sink.faults l.sink ≡ g.K.Sink.faults l.fn.sink;
}

abbrev pub decreases-loop-passed : goal.decreases-loop-passed
decreases-loop-passed g l = 2 ^ 40 - l.passed
