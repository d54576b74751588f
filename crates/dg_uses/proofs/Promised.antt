-- A run beside the promise of an array.
use Rattle.std.proofs.Common.{◌++◌, suc, List, [], ◌∷◌, sym, subst, arith}
use Rattle.std.specs.Prelude.{All, Some}
use Rattle.std.proofs.lemmas.List.Elements.{All-cons, All-nil, All-weaker}
use Rattle.dg_model.proofs.KnownLaws.{run_less}
use Rattle.dg_model.proofs.RunLaws.{trace_more}
use Rattle.dg_model.specs.Runs.{Trace}
use Rattle.dg_model.specs.States.{Counts, State}
use Rattle.dg_model.specs.declared.events.Event.{Event}
use Rattle.dg_model.specs.declared.events.Event.TheVariants.{Array}
use Rattle.dg_model.specs.declared.replies.Reply.{Reply}
use Rattle.dg_model.specs.declared.replies.Reply.TheVariants.{Done}
use Rattle.dg_model.specs.declared.shapes.Shape.{Shape}
use Rattle.dg_promise.specs.Promises.{AreTold}
use Rattle.dg_promise.specs.Steady.{FitsBlock}
use Rattle.dg_text.specs.Lines.{IsInPlace}

-- a write of a line in its place has at most the bytes of a block
pub fits : (shape : Shape) (event : Event) → IsInPlace (Some shape) event → FitsBlock shape.l event
fits shape event place = λ b bytes is. let here = subst (λ (e : Event). IsInPlace (Some shape) e) is place in here.1

pub all_fit : (shape : Shape) (events : List Event) → All (IsInPlace (Some shape)) events → All (FitsBlock shape.l) events
all_fit shape events places = All-weaker (IsInPlace (Some shape)) (FitsBlock shape.l) (fits shape) events places

pub all_front : (P : Event → Type 0) (front rest : List Event) → All P (front ++ rest) → All P front
all_front P [] rest all = All-nil P
all_front P (event ∷ front) rest all =
    All-cons P event front (all 0 event (omega arith)) (all_front P front rest (λ k d less. all (suc k) d (omega arith)))

-- a trace whose bytes are told
pub told_trace : {K : Type 0} (before : Counts) (shape : Shape) (events : List Event) (replies : List Reply) (last : State) → K
    → Trace K before (Array shape ∷ events) (Done ∷ replies) last → Trace AreTold before (Array shape ∷ events) (Done ∷ replies) last
told_trace before shape events replies last told trace = (trace.0, trace.1, run_less (λ _. told) trace.0 events replies last trace.2)

-- the same of one whose first reply isn't named
pub trace_told : {K : Type 0} (before : Counts) (shape : Shape) (events : List Event) (replies : List Reply) (last : State) → K
    → Trace K before (Array shape ∷ events) replies last → Trace AreTold before (Array shape ∷ events) replies last
trace_told {K} before shape events replies last told trace =
    let t = trace_more K before shape events replies last trace in
    subst (λ (r : List Reply). Trace AreTold before (Array shape ∷ events) r last) (sym t.is) (told_trace before shape events t.rest last told (t.blank, t.is_blank, t.run))
