use Rattle.std.proofs.Common.{◌≡◌, ◌≤◌, ◌-◌, length}
use Rattle.dg_io.specs.SinkLines.{LeavesLines}
use Rattle.dg_io.specs.Told.{Told, Took}
use Rattle.dg_text.specs.Replies.{blocks_text}
use Rattle.dg_volume.specs.Volumes.{any_phase, marks_of}
use Rattle.dg_run.proofs.PendingLists.{marked_below}
use Rattle.dg_run.proofs.pendings.write_pending.Given as goal

abbrev pub invariant-loop-block : goal.invariant-loop-block
invariant-loop-block g l = record {
  within : l.from ≤ length (marks_of any_phase l.volume);
  count : l.count ≡ length (marked_below (marks_of any_phase l.volume) l.from);
  few : l.count ≤ l.from;
  told : Told (Took (blocks_text (marked_below (marks_of any_phase l.volume) l.from))) (g.K.Sink.taken l.fn.sink) (g.K.Sink.taken l.sink);
  lines : LeavesLines 255 g.K.Sink.whole g.K.Sink.calls g.K.Sink.taken l.fn.sink l.sink;
  kept : g.K.Sink.faults l.sink ≡ g.K.Sink.faults l.fn.sink;
}

abbrev pub decreases-loop-block : goal.decreases-loop-block
decreases-loop-block g l = length (marks_of any_phase l.volume) - l.from
