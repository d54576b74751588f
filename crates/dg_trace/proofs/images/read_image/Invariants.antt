use Rattle.std.proofs.Common.{◌≡◌, ◌≤◌, ◌-◌, ◌+◌, ◌^◌, length}
use Rattle.dg_io.specs.SourceReads.{LeavesSource}
use Rattle.dg_io.specs.Told.{Gave, Told}
use Rattle.dg_trace.proofs.images.read_image.Given as goal

abbrev pub invariant-loop-count : goal.invariant-loop-count
invariant-loop-count g l = record {
  count : l.count ≡ length l.image.items;
  most : l.count ≤ 2 ^ 28 + 1;
  piece : length l.piece.items ≡ 65536;
  gave : Told (Gave l.image.items) (g.S.Source.left l.fn.source) (g.S.Source.left l.source);
  reads : LeavesSource g.S.Source.calls g.S.Source.left 0 l.fn.source l.source;
  kept : g.S.Source.faults l.source ≡ g.S.Source.faults l.fn.source;
}

abbrev pub decreases-loop-count : goal.decreases-loop-count
decreases-loop-count g l = 2 ^ 28 + 1 - l.count
