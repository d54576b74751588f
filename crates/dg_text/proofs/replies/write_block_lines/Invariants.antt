use Rattle.std.proofs.Common.{◌≡◌, length, take}
use Rattle.std.specs.List.{sum_by}
use Rattle.dg_io.specs.SinkCalls.{LeavesSink}
use Rattle.dg_io.specs.Told.{Told, Took}
use Rattle.dg_text.specs.Replies.{blocks_text}
use Rattle.dg_text.proofs.replies.write_block_lines.Given as goal

abbrev pub invariant-loop-block : goal.invariant-loop-block
invariant-loop-block g l = record {
  told : Told (Took (blocks_text (take l.block-index l.blocks))) (g.K.Sink.taken l.fn.sink) (g.K.Sink.taken l.sink);
  calls : LeavesSink g.K.Sink.whole g.K.Sink.calls (sum_by (λ _. 1) (take l.block-index l.blocks)) (length (blocks_text (take l.block-index l.blocks))) l.fn.sink l.sink;
  kept : g.K.Sink.faults l.sink ≡ g.K.Sink.faults l.fn.sink;
}
