use Rattle.dg_kept.proofs.RunEnds.{ends_with, led_last, run_last, trace_last}
use Rattle.dg_kept.proofs.runs.runs_end_with_saves.Goals as goal
use Rattle.dg_kept.specs.Opened.{AreTold}
use Rattle.dg_kept.specs.SavedRuns.{WasLed}
use Rattle.dg_model.specs.Runs.{Run, Trace}
use Rattle.dg_model.specs.declared.events.Event.TheVariants.{Save as SaveEvent}
use Rattle.dg_model.specs.declared.replies.Reply.TheVariants.{Saved}

pub returns : goal.returns
returns c = record {
  traced = λ before events replies number last bytes trace in_use holds.
      ends_with c.saves_leave_the_state.ensures (Trace AreTold before events replies) number last bytes (trace_last before events replies number last trace) in_use holds;
  resumed = λ first events replies number last bytes run in_use holds.
      ends_with c.saves_leave_the_state.ensures (Run AreTold first events replies) number last bytes (run_last first events replies SaveEvent (Saved number) last run) in_use holds;
  of_kinds = λ before events replies number last bytes run in_use holds.
      ends_with c.saves_leave_the_state.ensures (WasLed before events replies) number last.state bytes (led_last before events replies number last run) in_use holds;
}
