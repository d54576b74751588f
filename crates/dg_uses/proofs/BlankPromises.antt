-- A run from a blank array beside the promise of an array, whatever its members stand on.
use Rattle.std.proofs.Common.{◌++◌, ◌∷◌, ℕ, List, ap, subst, sym}
use Rattle.std.specs.Prelude.{All, Some}
use Rattle.dg_model.specs.Runs.{Run}
use Rattle.dg_model.specs.Shapes.{IsShape}
use Rattle.dg_model.specs.States.{Counts, IsBlank, State}
use Rattle.dg_model.specs.declared.events.Event.{Event}
use Rattle.dg_model.specs.declared.events.Event.TheVariants.{Cat}
use Rattle.dg_model.specs.declared.replies.Reply.{Reply}
use Rattle.dg_model.specs.declared.shapes.Shape.{Shape}
use Rattle.dg_promise.specs.Promises.{AreTold}
use Rattle.dg_promise.specs.Readings.{ReadsFrom}
use Rattle.dg_promise.specs.Steady.{FitsBlock}
use Rattle.dg_text.specs.Lines.{IsInPlace}
use Rattle.dg_uses.proofs.OneRun.{BlanksAreSteady}
use Rattle.dg_uses.proofs.Promised.{all_fit, all_front}
use Rattle.dg_uses.proofs.ResumedPromises.{RunsKeep}

-- each `cat` of the run keeps its promise
pub blank_reads : BlanksAreSteady → RunsKeep → (shape : Shape) (first : Counts) (blank : State) (front rest : List Event) (path : List ℕ) (replies : List Reply) (last : State)
    → IsShape shape → IsBlank shape first blank → All (IsInPlace (Some shape)) (front ++ Cat path ∷ rest) → Run AreTold blank (front ++ Cat path ∷ rest) replies last
    → ReadsFrom blank front path rest replies last
blank_reads blanks keeps shape first blank front rest path replies last is blank_is places run =
    let fits : All (FitsBlock blank.table.shape.l) front =
    subst (λ (l : ℕ). All (FitsBlock l) front) (sym (ap (λ (s : State). s.table.shape.l) blank_is.is))
    (all_fit shape front (all_front (IsInPlace (Some shape)) front (Cat path ∷ rest) places)) in
    keeps blank front path rest replies last (blanks shape first blank is blank_is) fits run
