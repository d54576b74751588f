-- Want of memory is told of no input without a line feed of which something was read.
use Rattle.std.proofs.Common.{◌≡◌, ◌≢◌, ◌∙◌, ℕ, List, [], ◌∷◌, ◌++◌, ap, append_assoc, inl, inr, refl, sym, subst}
use Rattle.std.specs.Prelude.{IsSome, None, Option, Some}
use Rattle.std.proofs.lemmas.List.{append-nil}
use Rattle.std.proofs.lemmas.List.Concat.{flat_map-append}
use Rattle.std.proofs.lemmas.List.Elements.{All-head, All-tail}
use Rattle.dg_io.specs.Told.{Told}
use Rattle.dg_model.specs.States.{Counts}
use Rattle.dg_model.specs.declared.events.Event.{Event}
use Rattle.dg_run.specs.Bytes.{HasNoLineFeed}
use Rattle.dg_run.specs.Endings.{StartsWith, StopsBefore}
use Rattle.dg_run.specs.Replays.{RanOut}
use Rattle.dg_text.specs.Lines.{input_of, line_of, spelling}

no_feed : (front behind : List ℕ) → HasNoLineFeed (front ++ 10 ∷ behind) → ⊥
no_feed [] behind none = All-head (λ byte. byte ≢ 10) 10 behind none refl
no_feed (x ∷ front) behind none = no_feed front behind (All-tail (λ byte. byte ≢ 10) x (front ++ 10 ∷ behind) none)

pub fed : (front behind text : List ℕ) → HasNoLineFeed text → text ≡ front ++ 10 ∷ behind → ⊥
fed front behind text none is = no_feed front behind (subst HasNoLineFeed is none)

-- the lines of events end with a line feed
lines_fed : (events : List Event) (last : Event) (more : List ℕ) → input_of (events ++ last ∷ []) ++ more ≡ (input_of events ++ spelling last) ++ 10 ∷ more
lines_fed events last more =
    ap (λ (l : List ℕ). l ++ more) (flat_map-append line_of events (last ∷ []) ∙ ap (λ (l : List ℕ). input_of events ++ l) (append-nil (line_of last)))
    ∙ append_assoc (input_of events) (line_of last) more ∙ ap (λ (l : List ℕ). input_of events ++ l) (append_assoc (spelling last) (10 ∷ []) more)
    ∙ sym (append_assoc (input_of events) (spelling last) (10 ∷ more))

-- what was told at first, and still is, was changed by the step
told_step : (step : List ℕ → List ℕ → Type 0) (left rest : Option (List ℕ)) (text : List ℕ) → left ≡ Some text → IsSome rest → Told step left rest → (after : List ℕ) × step text after
told_step step left None text is some told = absurd (cc some)
told_step step None (Some after) text is some told = absurd told
told_step step (Some before) (Some after) text is some told = let same : before ≡ text = cc is in (after, subst (λ (l : List ℕ). step l after) same told)

module _ (left rest : Option (List ℕ)) (text : List ℕ) (none : HasNoLineFeed text) (is : left ≡ Some text) (some : IsSome rest) where
  starts_not : (events : List Event) (last : Event) → Told (StartsWith (input_of (events ++ last ∷ []))) left rest → ⊥
  starts_not events last told =
      let s = told_step (StartsWith (input_of (events ++ last ∷ []))) left rest text is some told in
      fed (input_of events ++ spelling last) s.1.more text none (s.1.split ∙ lines_fed events last s.1.more)

  stops_not : (most room : ℕ) (lines : List ℕ) → Told (StopsBefore most room lines) left rest → ⊥
  stops_not most room lines told =
      let s = told_step (StopsBefore most room lines) left rest text is some told in
      let next = s.1.next.1 in
      fed (lines ++ next.line) s.1.next.0 text none (s.1.split ∙ ap (λ (l : List ℕ). lines ++ l) next.split ∙ sym (append_assoc lines next.line (10 ∷ s.1.next.0)))

  pub unread_then : (before : Counts) (tells : ℕ → Type 0) (taken given : Option (List ℕ)) → RanOut before tells left rest taken given → (rest ≡ left) × (given ≡ taken)
  unread_then before tells taken given (inl nothing) = nothing
  unread_then before tells taken given (inr (inl ran)) = absurd (stops_not _ _ _ ran.input)
  unread_then before tells taken given (inr (inr (inl ran))) = absurd (starts_not ran.events ran.last ran.input)
  unread_then before tells taken given (inr (inr (inr ran))) = absurd (starts_not ran.events ran.last ran.input)
