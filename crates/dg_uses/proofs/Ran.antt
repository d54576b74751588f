-- Runs in which no count of faults rose, and after which the rack still tells each member of the array.
use Rattle.std.proofs.Common.{◌≡◌, false, ℕ, List, [], ◌∷◌, sym, subst}
use Rattle.std.specs.Prelude.{All}
use Rattle.std.proofs.lemmas.List.Elements.{All-cons, All-nil}
use Rattle.dg_model.specs.Causes.{NoneRose}
use Rattle.dg_model.specs.States.{Counts}
use Rattle.dg_model.specs.declared.shapes.Shape.{Shape}
use Rattle.dg_model.specs.declared.events.Event.{Event}
use Rattle.dg_model.specs.declared.events.Event.TheVariants.{Array, Write, Read, Fail, Cat, Ls}
use Rattle.dg_model.specs.declared.replies.Reply.{Reply}
use Rattle.dg_model.specs.declared.replies.Reply.TheVariants.{Done}
use Rattle.dg_run.specs.Replays.{TellsBoundaries}
use Rattle.dg_uses.specs.Replays.{RanSmoothly}
use Rattle.dg_uses.specs.Views.{Core, View, Views, blank_core}
use Rattle.dg_uses.specs.Answers.{StaysWhole, answers}
use Rattle.dg_uses.proofs.Chains.{trace_views}
use Rattle.dg_uses.proofs.Flat.{trace_answers, whole_stay}
use Rattle.dg_uses.proofs.InUse.{IsViewed, viewed_stay}
use Rattle.dg_uses.proofs.OneRun.{BlanksAreSteady, StepsKeepSteady, histories_one}
use Rattle.dg_uses.proofs.Quiet.{quiet, quiet_counts}
use Rattle.dg_uses.proofs.QuietRuns.{IsQuiet, Stay, quiet_history, stay_for}

-- events that have views are among those of which they are told
view_viewed : (old : Core) (event : Event) (reply : Reply) (new : Core) → View old event reply new → IsViewed event
view_viewed old (Write b bytes) reply new view = tt
view_viewed old (Read b) reply new view = tt
view_viewed old (Fail s j) reply new view = tt
view_viewed old (Cat path) reply new view = tt
view_viewed old (Ls path) reply new view = tt
view_viewed old event reply new view = absurd view

views_viewed : (old : Core) (events : List Event) (replies : List Reply) (new : Core) → Views old events replies new → All IsViewed events
views_viewed old [] replies new views = All-nil IsViewed
views_viewed old (event ∷ events) [] new views = absurd views
views_viewed old (event ∷ events) (reply ∷ replies) new views =
    All-cons IsViewed event events (view_viewed old event reply views.0 views.1) (views_viewed views.0 events replies new views.2)

-- the run of the states, over members of which nothing is counted behind the array's own
module _ (steady : Type 0) (tells : ℕ → Type 0) (shape : Shape) (events : List Event) (replies : List Reply) (run : RanSmoothly steady tells (Array shape ∷ events) replies)
    (stay : Stay events replies) where
  abbrev Told : Type 0
  Told = TellsBoundaries tells run.ran.final.state

  quiet_ran : IsQuiet Told run.before shape events replies run.ran.final
  quiet_ran = quiet_history Told run.before shape events replies run.ran.final run.ran.in_place.0.most_boundaries stay run.ran.history

  none_at_end : NoneRose (quiet_counts shape.b quiet_ran.first).faults (quiet_counts shape.b run.ran.final.state.counts).faults
  none_at_end = quiet_ran.none (subst (λ (c : Counts). NoneRose run.before.faults c.faults) (sym run.ran.counts) run.none)

pub ran_views : (steady : Type 0) (tells : ℕ → Type 0) (shape : Shape) (events : List Event) (replies chain : List Reply) (end : Core) → RanSmoothly steady tells (Array shape ∷ events) replies
    → Views (blank_core shape) events chain end → replies ≡ Done ∷ chain
ran_views steady tells shape events replies chain end run views =
    let viewed = views_viewed (blank_core shape) events chain end views in
    let stay = stay_for events replies (λ r. viewed_stay events r viewed) in
    let q = quiet_ran steady tells shape events replies run stay in
    trace_views (TellsBoundaries tells run.ran.final.state) run.told shape events (quiet_counts shape.b q.first) replies chain (quiet shape.b run.ran.final.state) end
    run.ran.in_place.0 viewed (none_at_end steady tells shape events replies run stay) q.trace views

pub ran_same : StepsKeepSteady → BlanksAreSteady → (steady firm : Type 0) (tells told : ℕ → Type 0) (shape : Shape) (events : List Event) (replies others : List Reply)
    → RanSmoothly steady tells (Array shape ∷ events) replies → RanSmoothly firm told (Array shape ∷ events) others → replies ≡ others
ran_same steps blanks steady firm tells told shape events replies others x y =
    histories_one steps blanks (TellsBoundaries tells x.ran.final.state) (TellsBoundaries told y.ran.final.state) x.told y.told shape x.ran.in_place.0 events x.ran.in_place.1 x.before y.before
    replies others x.ran.final y.ran.final
    (subst (λ (c : Counts). NoneRose x.before.faults c.faults) (sym x.ran.counts) x.none)
    (subst (λ (c : Counts). NoneRose y.before.faults c.faults) (sym y.ran.counts) y.none)
    x.ran.history y.ran.history

pub ran_answers : (steady : Type 0) (tells : ℕ → Type 0) (shape : Shape) (events : List Event) (replies : List Reply) → StaysWhole shape (λ q. false) events
    → RanSmoothly steady tells (Array shape ∷ events) replies
    → replies ≡ Done ∷ answers shape (λ q. false) (λ b. []) events
ran_answers steady tells shape events replies whole run =
    let stay = stay_for events replies (λ r. whole_stay shape (λ q. false) events r whole) in
    let q = quiet_ran steady tells shape events replies run stay in
    trace_answers (TellsBoundaries tells run.ran.final.state) run.told (quiet_counts shape.b q.first) shape events replies (quiet shape.b run.ran.final.state)
    run.ran.in_place.0 whole (none_at_end steady tells shape events replies run stay) q.trace
