-- The boundaries of an array's first line stay along a run, and the members behind them are left alone.
use Rattle.std.proofs.Common.{◌≡◌, ◌∙◌, ◌≤◌, ◌/◌, ◌^◌, ℕ, List, [], ◌∷◌, length, ap, arith, subst, sym}
use Rattle.std.specs.Prelude.{IsSome, None, Option, Some}
use Rattle.dg_io.specs.Told.{IsSame, Told}
use Rattle.dg_model.proofs.MomentLaws.{history_runs}
use Rattle.dg_model.specs.Moments.{History, HistoryOf, Kind, Makes, Moment}
use Rattle.dg_model.specs.Moments.Kind.{double, plain}
use Rattle.dg_model.specs.Runs.{Run}
use Rattle.dg_model.specs.States.{Counts, State}
use Rattle.dg_model.specs.Steps.{Step}
use Rattle.dg_model.specs.declared.events.Event.{Event}
use Rattle.dg_model.specs.declared.events.Event.TheVariants.{Array, Regroup, Safe}
use Rattle.dg_model.specs.declared.replies.Reply.{Reply}
use Rattle.dg_model.specs.declared.replies.Reply.TheVariants.{Done, Regrouped, TooFew, Whole}
use Rattle.dg_model.specs.declared.shapes.Shape.{Shape}
use Rattle.dg_run.specs.Calls.{Facts}
use Rattle.dg_run.specs.Replays.{Ran, Replayed, TellsBoundaries}
use Rattle.dg_text.specs.Lines.{AreInPlace, IsInPlace, input_of}
use Rattle.dg_uses.proofs.Lines.{OneInput}
use Rattle.dg_uses.proofs.Seated.{IsSeated, blank_seated, sits_next, step_seated}
use Rattle.dg_uses.proofs.TracedLaws.{told_both}

-- ---- the boundaries of the first line

regroup_boundaries : (Known : Type 0) (old : State) (reply : Reply) (new : State) → Step Known old Regroup reply new → new.boundaries ≡ old.boundaries
regroup_boundaries Known old Whole new h = ap (λ (s : State). s.boundaries) h.1
regroup_boundaries Known old TooFew new h = ap (λ (s : State). s.boundaries) h.3.rest
regroup_boundaries Known old (Regrouped r c) new h = ap (λ (s : State). s.boundaries) h.1.rest ∙ ap (λ (s : State). s.boundaries) h.1.opened.rest
regroup_boundaries Known old reply new h = absurd h

step_boundaries : (Known : Type 0) (old : State) (event : Event) (reply : Reply) (new : State) → IsSeated old → Step Known old event reply new → new.boundaries ≡ old.boundaries
step_boundaries Known old Regroup reply new was step = regroup_boundaries Known old reply new step
step_boundaries Known old event reply new was step = (sits_next Known old event reply new was tt step).boundaries

run_boundaries : (Known : Type 0) (old : State) (events : List Event) (replies : List Reply) (new : State) → IsSeated old → Run Known old events replies new
    → new.boundaries ≡ old.boundaries
run_boundaries Known old [] [] new was run = ap (λ (s : State). s.boundaries) run
run_boundaries Known old [] (reply ∷ replies) new was run = absurd run
run_boundaries Known old (event ∷ events) [] new was run = absurd run
run_boundaries Known old (event ∷ events) (reply ∷ replies) new was run =
    run_boundaries Known run.0 events replies new (step_seated Known old event reply run.0 was run.1) run.2 ∙ step_boundaries Known old event reply run.0 was run.1

line_boundaries : (Known : Type 0) (kind : Kind) (make : Event) (before : Counts) (shape : Shape) (events : List Event) (replies : List Reply) (blank final : Moment)
    → shape.b ≤ 16 → Makes Known kind make shape before blank → History Known kind blank events replies final → final.state.boundaries ≡ shape.b
line_boundaries Known kind make before shape events replies blank final most made history =
    run_boundaries Known blank.state events replies final.state (blank_seated shape made.first blank.state most made.is_blank)
    (history_runs Known kind blank events replies final history)
    ∙ ap (λ (s : State). s.boundaries) made.is_blank.is

pub made_boundaries : (Known : Type 0) (before : Counts) (shape : Shape) (events : List Event) (replies : List Reply) (final : Moment) → shape.b ≤ 16
    → HistoryOf Known before (Array shape ∷ events) replies final → final.state.boundaries ≡ shape.b
made_boundaries Known before shape events [] final most h = absurd h
made_boundaries Known before shape events (Done ∷ replies) final most h =
    line_boundaries Known plain (Array shape) before shape events replies h.0 final most h.1 h.2
made_boundaries Known before shape events (reply ∷ replies) final most h = absurd h

-- the same of an array that keeps a checkpoint
safe_boundaries : (Known : Type 0) (before : Counts) (shape : Shape) (events : List Event) (replies : List Reply) (final : Moment) → shape.b ≤ 16
    → HistoryOf Known before (Safe shape ∷ events) replies final → final.state.boundaries ≡ shape.b
safe_boundaries Known before shape events [] final most h = absurd h
safe_boundaries Known before shape events (Done ∷ replies) final most h = line_boundaries Known double (Safe shape) before shape events replies h.0 final most h.1 h.2
safe_boundaries Known before shape events (reply ∷ replies) final most h = absurd h

-- ---- what a replay says

module _ (steady : Type 0) (tells : ℕ → Type 0) (f : Facts) (text : List ℕ) (left : f.left ≡ Some text) (some : IsSome f.rest)
    (all : Replayed f.before f.now f.images f.bytes steady tells f.left f.rest f.taken f.given) where
  -- the text is the lines of the events
  spelled : text ≡ input_of all.events
  spelled = (told_both (λ b a. (b ≡ input_of all.events) × (a ≡ [])) f.left f.rest text left some all.input).2.0

  pub kept_to_budget : length text ≤ 2 ^ 40
  kept_to_budget = subst (λ (l : List ℕ). length l ≤ 2 ^ 40) (sym spelled) all.ran.budget

-- such a first line makes an array of so many boundaries
abbrev pub MakesBoundaries : Event → ℕ → List Event → Type 1
MakesBoundaries make b events = (Known : Type 0) (before : Counts) (replies : List Reply) (final : Moment) → IsInPlace None make
    → HistoryOf Known before (make ∷ events) replies final → final.state.boundaries ≡ b

pub array_makes : (shape : Shape) (events : List Event) → MakesBoundaries (Array shape) shape.b events
array_makes shape events Known before replies final well h = made_boundaries Known before shape events replies final well.most_boundaries h

pub safe_makes : (shape : Shape) (events : List Event) → MakesBoundaries (Safe shape) shape.b events
safe_makes shape events Known before replies final well h = safe_boundaries Known before shape events replies final well.most_boundaries h

pub others_in : (before now : Counts) (images bytes : ℕ → Option (List ℕ)) (steady : Type 0) (tells : ℕ → Type 0) (make : Event) (b : ℕ) (events : List Event) (replies : List Reply)
    → MakesBoundaries make b events → Ran before now images bytes steady tells (make ∷ events) replies → (q : ℕ) → b ≤ q / 2 → Told IsSame (images q) (bytes q)
others_in before now images bytes steady tells make b events replies makes ran q past =
    let size = makes (TellsBoundaries tells ran.final.state) before replies ran.final ran.in_place.0 ran.history in
    ran.others.held q (omega (arith, size, past))

pub others_kept : OneInput → (steady : Type 0) (tells : ℕ → Type 0) (f : Facts) (make : Event) (b : ℕ) (events : List Event) → MakesBoundaries make b events
    → AreInPlace (make ∷ events) → f.left ≡ Some (input_of (make ∷ events)) → IsSome f.rest
    → Replayed f.before f.now f.images f.bytes steady tells f.left f.rest f.taken f.given → (q : ℕ) → b ≤ q / 2 → Told IsSame (f.images q) (f.bytes q)
others_kept one steady tells f make b events makes places left some all =
    let same = one all.events (make ∷ events) all.ran.in_place places (sym (spelled steady tells f (input_of (make ∷ events)) left some all)) in
    others_in f.before f.now f.images f.bytes steady tells make b events all.replies makes
    (subst (λ (es : List Event). Ran f.before f.now f.images f.bytes steady tells es all.replies) same all.ran)
