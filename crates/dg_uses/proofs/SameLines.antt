-- Lines of events in their places, and behind them a text without a line feed, are the lines of no other events.
use Rattle.std.proofs.Common.{◌≡◌, ◌∙◌, ℕ, List, [], ◌∷◌, ◌++◌, ap, append_assoc, refl, subst, sym}
use Rattle.std.specs.Prelude.{All, None, Some}
use Rattle.std.proofs.lemmas.List.{append-nil}
use Rattle.std.proofs.lemmas.List.Elements.{All-head, All-nil, All-tail}
use Rattle.dg_model.specs.Shapes.{IsShape}
use Rattle.dg_model.specs.declared.events.Event.{Event}
use Rattle.dg_model.specs.declared.events.Event.TheVariants.{Array, Safe}
use Rattle.dg_model.specs.declared.shapes.Shape.{Shape}
use Rattle.dg_run.specs.Bytes.{HasNoLineFeed}
use Rattle.dg_text.specs.Lines.{AreInPlace, IsInPlace, input_of, line_of, spelling}
use Rattle.dg_uses.proofs.CutLines.{fed}
use Rattle.dg_uses.proofs.RefusedRows.{OneLine}

-- a line with others behind it
begins_with : (event : Event) (events : List Event) (more : List ℕ) → input_of (event ∷ events) ++ more ≡ line_of event ++ (input_of events ++ more)
begins_with event events more = append_assoc (line_of event) (input_of events) more

no_line_in : (event : Event) (events : List Event) (text more : List ℕ) → HasNoLineFeed text → text ≡ input_of (event ∷ events) ++ more → ⊥
no_line_in event events text more none is =
    fed (spelling event) (input_of events ++ more) text none
    (is ∙ begins_with event events more ∙ append_assoc (spelling event) (10 ∷ []) (input_of events ++ more))

module _ (one : OneLine) (part rest : List ℕ) (none : HasNoLineFeed part) (last : HasNoLineFeed rest) where
  pub same_lines : (shape : Shape) (events others : List Event) → All (IsInPlace (Some shape)) events → All (IsInPlace (Some shape)) others
      → input_of events ++ part ≡ input_of others ++ rest → events ≡ others
  same_lines shape [] [] places there is = refl
  same_lines shape [] (other ∷ others) places there is = absurd (no_line_in other others part rest none is)
  same_lines shape (event ∷ events) [] places there is = absurd (no_line_in event events rest part last (sym is))
  same_lines shape (event ∷ events) (other ∷ others) places there is =
      let first = one (Some shape) event other (input_of events ++ part) (input_of others ++ rest)
      (All-head (IsInPlace (Some shape)) event events places) (All-head (IsInPlace (Some shape)) other others there)
      (sym (begins_with event events part) ∙ is ∙ begins_with other others rest) in
      ap (λ (e : Event). e ∷ events) first.0
      ∙ ap (λ (l : List Event). other ∷ l)
      (same_lines shape events others (All-tail (IsInPlace (Some shape)) event events places) (All-tail (IsInPlace (Some shape)) other others there) first.1)

  -- the same from the first line on
  pub same_input : (events : List Event) (shape : Shape) (others : List Event) → AreInPlace events → IsShape shape → All (IsInPlace (Some shape)) others
      → input_of events ++ part ≡ input_of (Array shape ∷ others) ++ rest → events ≡ Array shape ∷ others
  same_input [] shape others places well there is = absurd (no_line_in (Array shape) others part rest none is)
  same_input (Array s ∷ events) shape others places well there is =
      let first = one None (Array s) (Array shape) (input_of events ++ part) (input_of others ++ rest) places.0 well
      (sym (begins_with (Array s) events part) ∙ is ∙ begins_with (Array shape) others rest) in
      let same : s ≡ shape = cc first.0 in
      ap (λ (e : Event). e ∷ events) first.0
      ∙ ap (λ (l : List Event). Array shape ∷ l)
      (same_lines shape events others (subst (λ (t : Shape). All (IsInPlace (Some t)) events) same places.1) there first.1)
  same_input (Safe s ∷ events) shape others places well there is =
      let first = one None (Safe s) (Array shape) (input_of events ++ part) (input_of others ++ rest) places.0 well
      (sym (begins_with (Safe s) events part) ∙ is ∙ begins_with (Array shape) others rest) in
      let same : Safe s ≡ Array shape = first.0 in absurd (cc same)
  same_input (event ∷ events) shape others places well there is = absurd places.0

-- of lines alone
pub same_events : OneLine → (shape : Shape) (events others : List Event) → All (IsInPlace (Some shape)) events → All (IsInPlace (Some shape)) others
    → input_of others ≡ input_of events → events ≡ others
same_events one shape events others places there is =
    let none : HasNoLineFeed [] = All-nil _ in
    same_lines one [] [] none none shape events others places there (append-nil (input_of events) ∙ sym is ∙ sym (append-nil (input_of others)))
