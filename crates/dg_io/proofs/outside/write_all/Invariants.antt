use Rattle.std.proofs.Common.{◌≡◌, ◌≤◌, ◌+◌, ◌-◌, ◌⊎◌, ◌↔◌, length, take}
use Rattle.dg_io.specs.Told.{Told, Took}
use Rattle.dg_io.proofs.outside.write_all.Given as goal

abbrev pub invariant-loop-at : goal.invariant-loop-at
invariant-loop-at g l = record {
  within : l.at ≤ length l.piece;
  told : Told (Took (take l.at l.piece)) (g.K.Sink.taken l.fn.sink) (g.K.Sink.taken l.sink);
  kept : g.K.Sink.faults l.sink ≡ g.K.Sink.faults l.fn.sink;
  whole_on : g.K.Sink.whole l.fn.sink ↔ g.K.Sink.whole l.sink;
  later : g.K.Sink.calls l.fn.sink ≤ g.K.Sink.calls l.sink;
  each_call : g.K.Sink.calls l.sink ≤ g.K.Sink.calls l.fn.sink + l.at;
  few_calls : g.K.Sink.whole l.fn.sink
      → (g.K.Sink.calls l.sink ≤ g.K.Sink.calls l.fn.sink) ⊎ ((l.at ≡ length l.piece) × (g.K.Sink.calls l.sink ≤ g.K.Sink.calls l.fn.sink + 1));
}

abbrev pub decreases-loop-at : goal.decreases-loop-at
decreases-loop-at g l = length l.piece - l.at
