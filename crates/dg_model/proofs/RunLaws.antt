-- Runs and traces by their first event. A library for the crates above.
use Rattle.std.proofs.Common.{◌≡◌, List, [], ◌∷◌, refl, ◌++◌}
use Rattle.dg_model.specs.Runs.{Run, Trace}
use Rattle.dg_model.specs.States.{Counts, IsBlank, State}
use Rattle.dg_model.specs.Steps.{Step}
use Rattle.dg_model.specs.declared.events.Event.{Event}
use Rattle.dg_model.specs.declared.events.Event.TheVariants.{Array}
use Rattle.dg_model.specs.declared.replies.Reply.{Reply}
use Rattle.dg_model.specs.declared.replies.Reply.TheVariants.{Done}
use Rattle.dg_model.specs.declared.shapes.Shape.{Shape}

pub run_none : (Known : Type 0) (old new : State) (replies : List Reply) → Run Known old [] replies new → (replies ≡ []) × (new ≡ old)
run_none Known old new [] run = (refl, run)
run_none Known old new (reply ∷ replies) run = absurd run

-- the first event of a run with its reply, and the rest
pub record RunsFirst (Known : Type 0) (old : State) (event : Event) (events : List Event) (replies : List Reply) (new : State) : Type 0 where
  pub reply : Reply
  pub rest : List Reply
  pub is : replies ≡ reply ∷ rest
  pub mid : State
  pub step : Step Known old event reply mid
  pub run : Run Known mid events rest new

pub run_more : (Known : Type 0) (old : State) (event : Event) (events : List Event) (replies : List Reply) (new : State) → Run Known old (event ∷ events) replies new
    → RunsFirst Known old event events replies new
run_more Known old event events [] new run = absurd run
run_more Known old event events (reply ∷ replies) new run =
    record { reply = reply; rest = replies; is = refl; mid = run.0; step = run.1; run = run.2 }

-- one step more at the end of a run
pub run_push : (Known : Type 0) (old : State) (events : List Event) (replies : List Reply) (mid : State) (event : Event) (reply : Reply) (new : State)
    → Run Known old events replies mid → Step Known mid event reply new → Run Known old (events ++ event ∷ []) (replies ++ reply ∷ []) new
run_push Known old [] [] mid event reply new run step = (new, subst_step run step, refl)
  where
    subst_step : mid ≡ old → Step Known mid event reply new → Step Known old event reply new
    subst_step e h = rw e at h
run_push Known old [] (first ∷ replies) mid event reply new run step = absurd run
run_push Known old (first ∷ events) [] mid event reply new run step = absurd run
run_push Known old (first ∷ events) (answer ∷ replies) mid event reply new run step =
    (run.0, run.1, run_push Known run.0 events replies mid event reply new run.2 step)

-- the blank array that the first event of a trace makes, and the rest
pub record TracesFirst (Known : Type 0) (before : Counts) (shape : Shape) (events : List Event) (replies : List Reply) (new : State) : Type 0 where
  pub rest : List Reply
  pub is : replies ≡ Done ∷ rest
  pub blank : State
  pub is_blank : IsBlank shape before blank
  pub run : Run Known blank events rest new

pub trace_more : (Known : Type 0) (before : Counts) (shape : Shape) (events : List Event) (replies : List Reply) (new : State)
    → Trace Known before (Array shape ∷ events) replies new → TracesFirst Known before shape events replies new
trace_more Known before shape events [] new trace = absurd trace
trace_more Known before shape events (Done ∷ replies) new trace = record { rest = replies; is = refl; blank = trace.0; is_blank = trace.1; run = trace.2 }
trace_more Known before shape events (reply ∷ replies) new trace = absurd trace
