use Rattle.std.proofs.Common.{◌≡◌, ◌≤◌, ◌-◌, length, take}
use Rattle.dg_io.specs.SourceReads.{LeavesSource}
use Rattle.dg_io.specs.Told.{Told, IsSame}
use Rattle.dg_run.specs.Bytes.{HasNoLineFeed}
use Rattle.dg_run.specs.Inputs.{unread, ahead}
use Rattle.dg_run.proofs.input.Input.next_line.Given as goal

abbrev pub invariant-loop-step : goal.invariant-loop-step
invariant-loop-step g l = record {
  seen : l.seen ≤ length (unread l.self);
  none : HasNoLineFeed (take l.seen (unread l.self));
  same : Told IsSame (ahead l.fn.self (g.S.Source.left l.fn.source)) (ahead l.self (g.S.Source.left l.source));
  reads : LeavesSource g.S.Source.calls g.S.Source.left 0 l.fn.source l.source;
  kept : g.S.Source.faults l.source ≡ g.S.Source.faults l.fn.source;
}

abbrev pub decreases-loop-step : goal.decreases-loop-step
decreases-loop-step g l = 65536 - length (unread l.self)
