-- What holds of an array that told which files lost blocks.
use Rattle.std.proofs.Common.{◌≡◌, ◌∙◌, ◌++◌, ℕ, List, [], ◌∷◌, length, sym, ap, subst}
use Rattle.std.specs.Prelude.{All, Ok, Some}
use Rattle.std.proofs.lemmas.List.Elements.{All-head, All-tail}
use Rattle.dg_model.proofs.StepLaws.{step_keeps}
use Rattle.dg_model.specs.Paths.{PathOf}
use Rattle.dg_model.specs.Runs.{Run}
use Rattle.dg_model.specs.Shapes.{IsShape}
use Rattle.dg_model.specs.States.{Counts, IsBlank, State}
use Rattle.dg_model.specs.Steps.{AreLostIn, Step}
use Rattle.dg_model.specs.Tables.{IsTable}
use Rattle.dg_model.specs.Changes.{IsInOrder}
use Rattle.dg_model.specs.Valid.{KeepsPromise}
use Rattle.dg_model.specs.declared.events.Event.{Event}
use Rattle.dg_model.specs.declared.events.Event.TheVariants.{LostFiles, Regroup}
use Rattle.dg_model.specs.declared.replies.Reply.{Reply}
use Rattle.dg_model.specs.declared.replies.Reply.TheVariants.{LostFiles as LostFilesReply, Regrouped, TooFew, Whole}
use Rattle.dg_model.specs.declared.shapes.Shape.{Shape}
use Rattle.dg_promise.specs.Promises.{AreTold, FewLost}
use Rattle.dg_promise.specs.Steady.{FitsBlock, IsSteady}
use Rattle.dg_text.specs.Lines.{IsInPlace}
use Rattle.dg_uses.proofs.OneRun.{BlanksAreSteady, StepsKeepSteady}
use Rattle.dg_uses.proofs.Promised.{all_fit}
use Rattle.dg_uses.specs.LostFiles.{TellsLostFiles}
use Rattle.ufs_model.specs.Trees.{tree_of}

abbrev pub FewLeaveWhole : Type 0
FewLeaveWhole = (state : State) (path : List ℕ) → IsTable state.table → All (λ block. length block ≡ state.table.shape.l) state.blocks
    → IsInOrder AreTold state → FewLost state → KeepsPromise state path

-- blocks keep their size, whichever boundaries are taken out of use
regroup_size : (old : State) (reply : Reply) (new : State) → Step AreTold old Regroup reply new → new.table.shape.l ≡ old.table.shape.l
regroup_size old Whole new h = ap (λ (s : State). s.table.shape.l) h.1
regroup_size old TooFew new h = ap (λ (s : State). s.table.shape.l) h.3.rest
regroup_size old (Regrouped r c) new h = ap (λ (s : State). s.table.shape.l) h.1.rest ∙ ap (λ (s : State). s.table.shape.l) h.1.opened.rest
regroup_size old reply new h = absurd h

step_size : (old : State) (event : Event) (reply : Reply) (new : State) → Step AreTold old event reply new → new.table.shape.l ≡ old.table.shape.l
step_size old Regroup reply new h = regroup_size old reply new h
step_size old event reply new h = ap (λ (s : Shape). s.l) (step_keeps AreTold old event reply new tt h).table.shape

-- the last step of a run, from a steady state
record AsksLast (lost : List PathOf) (new : State) : Type 0 where
  old : State
  steady : IsSteady old
  step : Step AreTold old LostFiles (LostFilesReply lost) new

module _ (keeps : StepsKeepSteady) (l : ℕ) (lost : List PathOf) where
  asks_last : (old : State) (events : List Event) (replies : List Reply) (new : State) → IsSteady old → old.table.shape.l ≡ l
      → All (FitsBlock l) (events ++ LostFiles ∷ []) → Run AreTold old (events ++ LostFiles ∷ []) (replies ++ LostFilesReply lost ∷ []) new → AsksLast lost new
  asks_last old [] [] new steady size fits run = record {
    old = old;
    steady = steady;
    step = subst (λ (s : State). Step AreTold old LostFiles (LostFilesReply lost) s) (sym run.2) run.1;
  }
  asks_last old [] (r ∷ []) new steady size fits run = absurd run.2
  asks_last old [] (r ∷ (x ∷ replies)) new steady size fits run = absurd run.2
  asks_last old (e ∷ []) [] new steady size fits run = absurd run.2
  asks_last old (e ∷ (x ∷ events)) [] new steady size fits run = absurd run.2
  asks_last old (e ∷ events) (r ∷ replies) new steady size fits run =
      let here = subst (λ (n : ℕ). FitsBlock n e) (sym size) (All-head (FitsBlock l) e (events ++ LostFiles ∷ []) fits) in
      asks_last run.0 events replies new (keeps old e r run.0 here steady run.1) (step_size old e r run.0 run.1 ∙ size)
      (All-tail (FitsBlock l) e (events ++ LostFiles ∷ []) fits) run.2

no_bytes : (l : ℕ) → FitsBlock l LostFiles
no_bytes l b bytes is = absurd (cc is)

told_of : StepsKeepSteady → FewLeaveWhole → (lost : List PathOf) (new : State) → AsksLast lost new → TellsLostFiles lost new
told_of keeps few lost new last =
    let h = last.step in
    let steady = keeps last.old LostFiles (LostFilesReply lost) new (no_bytes last.old.table.shape.l) last.steady h in
    let settled = ap (λ (s : State). s.phase) h.2.rest ∙ h.0 in
    record {
      settled = settled;
      order = steady.settled settled;
      entries = h.1.0;
      listing = subst (λ (s : State). Ok h.1.0 ≡ (tree_of s.table.shape.l s.table.shape.n s.blocks).value) (sym h.2.rest) (h.1.1.rule tt).answer;
      lost_are = subst (λ (s : State). AreLostIn s h.1.0 lost) (sym h.2.rest) (h.1.2 tt);
      promise = λ left path. few new path steady.sites steady.size (steady.settled settled) left;
    }

-- the run begins with a blank array, whatever its members stand on
pub tells_lost : BlanksAreSteady → StepsKeepSteady → FewLeaveWhole → (shape : Shape) (first : Counts) (blank : State) (events : List Event) (replies : List Reply)
    (lost : List PathOf) (final : State) → IsShape shape → IsBlank shape first blank → All (IsInPlace (Some shape)) (events ++ LostFiles ∷ [])
    → Run AreTold blank (events ++ LostFiles ∷ []) (replies ++ LostFilesReply lost ∷ []) final → TellsLostFiles lost final
tells_lost blanks keeps few shape first blank events replies lost final is blank_is places run =
    told_of keeps few lost final (asks_last keeps shape.l lost blank events replies final (blanks shape first blank is blank_is)
    (ap (λ (s : State). s.table.shape.l) blank_is.is) (all_fit shape (events ++ LostFiles ∷ []) places) run)
