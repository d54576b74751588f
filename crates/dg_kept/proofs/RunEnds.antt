-- Runs by their last event.
use Rattle.std.proofs.Common.{◌++◌, ℕ, List, [], ◌∷◌, refl, sym, subst}
use Rattle.std.specs.Prelude.{Option}
use Rattle.dg_model.specs.Moments.{Happens, History, HistoryOf, Kind, Moment}
use Rattle.dg_model.specs.Moments.Kind.{double, parity, plain}
use Rattle.dg_model.specs.Runs.{Run, Trace}
use Rattle.dg_model.specs.States.{Counts, HoldsAll, State}
use Rattle.dg_model.specs.Steps.{Step}
use Rattle.dg_model.specs.declared.events.Event.{Event}
use Rattle.dg_model.specs.declared.events.Event.TheVariants.{Array, Safe, Parity, Save as SaveEvent}
use Rattle.dg_model.specs.declared.replies.Reply.{Reply}
use Rattle.dg_model.specs.declared.replies.Reply.TheVariants.{Done, Saved}
use Rattle.dg_kept.specs.Opened.{AreTold}
use Rattle.dg_kept.specs.Saved.{Save}
use Rattle.dg_kept.specs.SavedRuns.{AreAllInUse, EndsWithSave, LeavesSave, WasLed}

-- ---- the last event

-- a run led to an old state, and the last event from there to the last one
pub record RunsLast (Led : State → Type 0) (event : Event) (reply : Reply) (new : State) : Type 0 where
  pub old : State
  pub led : Led old
  pub step : Step AreTold old event reply new

pub run_last : (first : State) (events : List Event) (replies : List Reply) (event : Event) (reply : Reply) (new : State)
    → Run AreTold first (events ++ event ∷ []) (replies ++ reply ∷ []) new → RunsLast (Run AreTold first events replies) event reply new
run_last first [] [] event reply new run = record {
  old = first;
  led = refl;
  step = subst (λ (s : State). Step AreTold first event reply s) (sym run.2) run.1;
}
run_last first [] (r ∷ []) event reply new run = absurd run.2
run_last first [] (r ∷ (x ∷ replies)) event reply new run = absurd run.2
run_last first (e ∷ []) [] event reply new run = absurd run.2
run_last first (e ∷ (x ∷ events)) [] event reply new run = absurd run.2
run_last first (e ∷ events) (r ∷ replies) event reply new run =
    let last = run_last run.0 events replies event reply new run.2 in
    record { old = last.old; led = (run.0, run.1, last.led); step = last.step }

pub trace_last : (before : Counts) (events : List Event) (replies : List Reply) (number : ℕ) (new : State)
    → Trace AreTold before (events ++ SaveEvent ∷ []) (replies ++ Saved number ∷ []) new → RunsLast (Trace AreTold before events replies) SaveEvent (Saved number) new
trace_last before (Array shape ∷ events) (Done ∷ replies) number new trace =
    let last = run_last trace.0 events replies SaveEvent (Saved number) new trace.2 in
    record { old = last.old; led = (trace.0, trace.1, last.led); step = last.step }
trace_last before (Safe shape ∷ events) (Done ∷ replies) number new trace =
    let last = run_last trace.0 events replies SaveEvent (Saved number) new trace.2 in
    record { old = last.old; led = (trace.0, trace.1, last.led); step = last.step }
trace_last before (Parity shape n ∷ events) (Done ∷ replies) number new trace =
    let last = run_last trace.0 events replies SaveEvent (Saved number) new trace.2 in
    record { old = last.old; led = (trace.0, trace.1, last.led); step = last.step }
trace_last before events replies number new trace = absurd trace

-- ---- runs of arrays of any kind

record HappensLast (kind : Kind) (Led : Moment → Type 0) (event : Event) (reply : Reply) (new : Moment) : Type 0 where
  old : Moment
  led : Led old
  happens : Happens AreTold kind old event reply new

history_last : (kind : Kind) (first : Moment) (events : List Event) (replies : List Reply) (event : Event) (reply : Reply) (new : Moment)
    → History AreTold kind first (events ++ event ∷ []) (replies ++ reply ∷ []) new → HappensLast kind (History AreTold kind first events replies) event reply new
history_last kind first [] [] event reply new run = record {
  old = first;
  led = refl;
  happens = subst (λ (m : Moment). Happens AreTold kind first event reply m) (sym run.2) run.1;
}
history_last kind first [] (r ∷ []) event reply new run = absurd run.2
history_last kind first [] (r ∷ (x ∷ replies)) event reply new run = absurd run.2
history_last kind first (e ∷ []) [] event reply new run = absurd run.2
history_last kind first (e ∷ (x ∷ events)) [] event reply new run = absurd run.2
history_last kind first (e ∷ events) (r ∷ replies) event reply new run =
    let last = history_last kind run.0 events replies event reply new run.2 in
    record { old = last.old; led = (run.0, run.1, last.led); happens = last.happens }

pub led_last : (before : Counts) (events : List Event) (replies : List Reply) (number : ℕ) (new : Moment)
    → HistoryOf AreTold before (events ++ SaveEvent ∷ []) (replies ++ Saved number ∷ []) new → RunsLast (WasLed before events replies) SaveEvent (Saved number) new.state
led_last before (Array shape ∷ events) (Done ∷ replies) number new run =
    let last = history_last plain run.0 events replies SaveEvent (Saved number) new run.2 in
    record { old = last.old.state; led = record { moment = last.old; state_is = refl; history = (run.0, run.1, last.led) }; step = last.happens.step }
led_last before (Safe shape ∷ events) (Done ∷ replies) number new run =
    let last = history_last double run.0 events replies SaveEvent (Saved number) new run.2 in
    record { old = last.old.state; led = record { moment = last.old; state_is = refl; history = (run.0, run.1, last.led) }; step = last.happens.step }
led_last before (Parity shape n ∷ events) (Done ∷ replies) number new run =
    let last = history_last (parity n) run.0 events replies SaveEvent (Saved number) new run.2 in
    record { old = last.old.state; led = record { moment = last.old; state_is = refl; history = (run.0, run.1, last.led) }; step = last.happens.step }
led_last before events replies number new run = absurd run

-- ---- a run that ends with a save

-- what is said of a step that saves
abbrev pub SavesLeave : Type 0
SavesLeave = (old : State) (number : ℕ) (new : State) (bytes : ℕ → Option (List ℕ)) → Step AreTold old SaveEvent (Saved number) new
    → AreAllInUse new → HoldsAll bytes new → (save : Save) × LeavesSave old number new bytes save

pub ends_with : SavesLeave → (Led : State → Type 0) (number : ℕ) (last : State) (bytes : ℕ → Option (List ℕ)) → RunsLast Led SaveEvent (Saved number) last
    → AreAllInUse last → HoldsAll bytes last → EndsWithSave Led number last bytes
ends_with law Led number last bytes run in_use holds =
    let save = law run.old number last bytes run.step in_use holds in
    record { old = run.old; led = run.led; step = run.step; save = save.0; left = save.1 }
