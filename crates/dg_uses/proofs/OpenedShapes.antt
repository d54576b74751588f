-- The numbers of an array that was opened are those of a label, and what is printed where a read is past its last block.
use Rattle.std.proofs.Common.{◌≡◌, ◌∙◌, ◌<◌, ◌^◌, ℕ, List, [], ◌∷◌, ap, inl, inr, refl, subst, sym}
use Rattle.std.specs.Prelude.{All, IfSome, IsSome, None, Option, Some, codes}
use Rattle.std.proofs.lemmas.Bool.{cases_lt, false≢true}
use Rattle.std.proofs.lemmas.List.Elements.{All-cons, All-nil}
use Rattle.dg_io.specs.Told.{Told, Took}
use Rattle.dg_model.specs.Openings.{Found}
use Rattle.dg_model.specs.Saves.{BeginsWith, Label, SavedState}
use Rattle.dg_model.specs.States.{Counts}
use Rattle.dg_model.specs.declared.events.Event.{Event}
use Rattle.dg_model.specs.declared.events.Event.TheVariants.{Read}
use Rattle.dg_model.specs.declared.replies.Reply.{Reply}
use Rattle.dg_model.specs.declared.replies.Reply.TheVariants.{Range}
use Rattle.dg_model.specs.declared.shapes.Shape.{Shape}
use Rattle.dg_open.specs.Founds.{IsRead}
use Rattle.dg_run.specs.Calls.{Facts}
use Rattle.dg_run.specs.Resumes.{AllResumedBy}
use Rattle.dg_saved.specs.Calls.{Facts as SavedFacts}
use Rattle.dg_saved.specs.Saved.{HasSource}
use Rattle.dg_text.specs.Lines.{IsInPlace, input_of}
use Rattle.dg_text.specs.Replies.{output_of}
use Rattle.dg_uses.proofs.RefusedRows.{OneLine}
use Rattle.dg_uses.proofs.SameLines.{same_events}
use Rattle.dg_uses.proofs.SavedAgain.{had_is}
use Rattle.dg_uses.proofs.TracedLaws.{told_both}
use Rattle.dg_uses.specs.Answers.{TellsEach}

-- ---- what holds of the label of each member holds of what was opened, where the members are told

read_as : (P : Shape → Type 0) (taken : ℕ → Option Found) (q before now : ℕ) (o : Option (List ℕ)) (found : Option Found) (label : Label) (saved : SavedState) → IsSome o
    → found ≡ Some (record { label = label; state = Some saved }) → ((all : List ℕ) → o ≡ Some all → BeginsWith all label → P label.shape)
    → IfSome o (λ all. IsRead taken q before now all found) → P saved.table.shape
read_as P taken q before now None found label saved told is holds read = absurd (false≢true told)
read_as P taken q before now (Some all) found label saved told is holds read =
    let own = subst (λ (f : Option Found). IsRead taken q before now all f) is read in
    subst P (sym own.1.numbers) (holds all refl own.0.begins)

pub opened_as : (P : Shape → Type 0) (facts : SavedFacts) (opened : Counts) (source : HasSource facts opened) → TellsEach facts.images → TellsEach facts.bytes
    → ((q : ℕ) (all : List ℕ) (label : Label) → q < 32 → facts.images q ≡ Some all → BeginsWith all label → P label.shape) → P source.saved.table.shape
opened_as P facts opened source held told holds = elim (cases_lt source.source 32) [
  | inl low ↦
      let q = source.source in
      let there = source.is_source.newest.there in
      let read = subst (λ (o : Option (List ℕ)). IfSome o (λ all. IsRead source.taken q (facts.before.faults q) (opened.faults q) all (source.taken q)))
      (had_is (facts.images q) (facts.bytes q) (told q)) (source.read.each q low) in
      read_as P source.taken q (facts.before.faults q) (opened.faults q) (facts.images q) (source.taken q) source.label source.saved (held q) there
      (λ all is begins. holds q all source.label low is begins) read
  | inr past ↦
      let none : None ≡ Some _ = sym (source.read.others source.source past) ∙ source.is_source.newest.there in
      absurd (cc none)
]

-- ---- what is printed

range_printed : output_of (Range ∷ []) ≡ codes "range\n"
range_printed = refl

-- Whatever was opened, its events are in their places, and the read is out of range.
abbrev pub RefusesRead : (List Event → List Reply → Type 0) → ℕ → Type 0
RefusesRead Runs b = (events : List Event) (replies : List Reply) → Runs events replies
    → (shape : Shape) × All (IsInPlace (Some shape)) events × (events ≡ Read b ∷ [] → replies ≡ Range ∷ [])

pub range_told : OneLine → (facts : Facts) (b : ℕ) → b < 2 ^ 32 → facts.left ≡ Some (input_of (Read b ∷ [])) → IsSome facts.rest → (Runs : List Event → List Reply → Type 0)
    → RefusesRead Runs b → AllResumedBy Runs facts → Told (Took (codes "range\n")) facts.taken facts.given
range_told one facts b low left some Runs refuses all =
    let by = refuses all.events all.replies all.ran in
    let read = told_both (λ x a. (x ≡ input_of all.events) × (a ≡ [])) facts.left facts.rest (input_of (Read b ∷ [])) left some all.input in
    let place : All (IsInPlace (Some by.0)) (Read b ∷ []) = All-cons (IsInPlace (Some by.0)) (Read b) [] low (All-nil (IsInPlace (Some by.0))) in
    let events : all.events ≡ Read b ∷ [] = same_events one by.0 all.events (Read b ∷ []) by.1 place read.2.0 in
    subst (λ (t : List ℕ). Told (Took t) facts.taken facts.given) (ap output_of (by.2 events) ∙ range_printed) all.output
