use Rattle.std.proofs.Common.{◌≡◌, length, take}
use Rattle.std.specs.List.{sum_by}
use Rattle.dg_io.specs.SinkCalls.{LeavesSink}
use Rattle.dg_io.specs.Told.{Told, Took}
use Rattle.dg_text.specs.LineCalls.{entry_calls}
use Rattle.dg_text.specs.Listings.{listing_text}
use Rattle.dg_text.proofs.listings.write_entries.Given as goal

abbrev pub invariant-loop-entry : goal.invariant-loop-entry
invariant-loop-entry g l = record {
  told : Told (Took (listing_text l.form (take l.entry-index l.entries))) (g.K.Sink.taken l.fn.sink) (g.K.Sink.taken l.sink);
  calls : LeavesSink g.K.Sink.whole g.K.Sink.calls (sum_by entry_calls (take l.entry-index l.entries)) (length (listing_text l.form (take l.entry-index l.entries))) l.fn.sink l.sink;
  kept : g.K.Sink.faults l.sink ≡ g.K.Sink.faults l.fn.sink;
}
