-- A trace on an array that was opened, by how its lines ended, whatever a run and one without memory mean.
use Rattle.std.proofs.Common.{◌≡◌, ◌∙◌, ◌+◌, ◌-◌, ◌^◌, ◌≤◌, ℕ, List, [], ◌∷◌, ◌++◌, ap, arith, inl, inr, length, length-append, refl, subst, sym}
use Rattle.std.specs.Prelude.{◌⊎◌, All, Option, Some}
use Rattle.std.specs.Option.{option_map}
use Rattle.std.proofs.lemmas.List.Concat.{flat_map-append}
use Rattle.dg_io.specs.RackCalls.{RackCall}
use Rattle.dg_io.specs.RackWords.{After}
use Rattle.dg_io.specs.Told.{Told, Took, TookPart}
use Rattle.dg_io.specs.declared.outside.Rack.{Ghosts}
use Rattle.dg_model.specs.declared.events.Event.{Event}
use Rattle.dg_model.specs.declared.replies.Reply.{Reply}
use Rattle.dg_model.specs.declared.shapes.Shape.{Shape}
use Rattle.dg_run.proofs.Broken.{up_to}
use Rattle.dg_run.proofs.Happening.{weaker_runs}
use Rattle.dg_run.proofs.Inputs.{All-head, All-right}
use Rattle.dg_run.proofs.ToldSteps.{Told-then}
use Rattle.dg_run.proofs.Whole.{fresh_told, rest_ended, rest_told, took_last}
use Rattle.dg_run.specs.Arrays.{IsOfReplay}
use Rattle.dg_run.specs.Calls.{Facts}
use Rattle.dg_run.specs.Endings.{GaveLines, LinesBrokeOff, LinesCut, LinesRanOut, StartsWith, StopsBefore}
use Rattle.dg_run.specs.Events.{IsRefused}
use Rattle.dg_run.specs.Histories.{Running, RunsBefore, VolumeRunsTo}
use Rattle.dg_run.specs.Lines.{AllServed, BeginsAll, RefusedBehind, RefusedInPart, ServedTo}
use Rattle.dg_run.specs.Resumes.{AreLines, EndsResumeBy, ResumeCutBy, ResumeCutRefusalBy, ResumeDoneBy, ResumeListedBy, ResumeWantedBy, ShapeOf, StopsOn}
use Rattle.dg_run.specs.Steps.{shape_of}
use Rattle.dg_run.specs.declared.top.Status.{Status}
use Rattle.dg_run.specs.declared.top.Status.TheVariants.{Done, Usage, BadLine, ReadFault, WriteFault, NoMemory, NoState, Unclean, Refused}
use Rattle.dg_saved.specs.Calls as commands
use Rattle.dg_text.specs.Lines.{IsInPlace, input_of, line_of, longest}
use Rattle.dg_text.specs.Replies.{output_of, refusal}
use Rattle.dg_text.specs.declared.lines.BadLine.{BadLine as Kind}
use Rattle.dg_volume.specs.HeldLaws.{own_still}
use Rattle.dg_volume.specs.Volumes.{IsWell, Leaves, any_phase}
use Rattle.dg_volume.specs.declared.phases.AnyPhase.{AnyPhase}
use Rattle.dg_volume.specs.declared.volumes.Volume.{Volume}

-- what no call leaves of a volume
pub leaves_none : {R : Type 0} (rack : Ghosts R) (volume : Volume AnyPhase R) → IsWell any_phase rack volume → Leaves any_phase any_phase rack volume volume
leaves_none rack volume well = record {
  well = well;
  shape = refl;
  boundaries = refl;
  live = refl;
  line = refl;
  rise = record { faults = λ q. omega arith; calls = omega arith; writes = omega arith };
  tells = λ q told. told;
  told_before = λ q told. told;
  own = own_still rack volume;
  same_rack = refl;
}

-- what is ahead of a source with these bytes unread
abbrev pub ahead_of : List ℕ → Option (List ℕ) → Option (List ℕ)
ahead_of unread left = option_map (λ more. unread ++ more) left

module _ (shape : Shape) where
  -- no lines of events go on where the next line is refused
  past : (events : List Event) (kind : Kind) (text : List ℕ) → IsRefused (Some shape) (2 ^ 40 - length (input_of events)) text kind → (others more : List Event) → AreLines shape others
      → others ≡ events ++ more → text ≡ input_of more → ⊥
  past events kind text refused others [] lines split made = refused.some made
  past events kind text refused others (m ∷ ms) lines split made =
      let here : IsInPlace (Some shape) m = All-head (IsInPlace (Some shape)) m ms
      (All-right (IsInPlace (Some shape)) events (m ∷ ms) (subst (λ (l : List Event). All (IsInPlace (Some shape)) l) split lines.in_place)) in
      let over = refused.none m (input_of ms) here made in
      let size : length (input_of others) ≡ length (input_of events ++ input_of (m ∷ ms)) = ap (λ (l : List Event). length (input_of l)) split ∙ ap length (flat_map-append line_of events (m ∷ ms)) in
      let budget = lines.budget in
      absurd (omega (arith, size, over, budget, length-append (input_of events) (input_of (m ∷ ms)), length-append (line_of m) (input_of ms)))

  stops : (events : List Event) (kind : Kind) (b text : List ℕ) → BeginsAll (Some shape) events b text → IsRefused (Some shape) (2 ^ 40 - length (input_of events)) text kind → StopsOn shape events kind b text
  stops events kind b text begins refused = record {
    lines = begins.lines;
    refused = refused;
    none = λ others lines made. let had = begins.only others lines.in_place made in past events kind text refused others had.0 lines had.1 had.2;
  }

module _ {R : Type 0} (rack : Ghosts R) (none : (s : R) → rack.made s [] s) (both : (a b c : R) (x y : List RackCall) → rack.made a x b → rack.made b y c → rack.made a (x ++ y) c)
    (law : (a b : R) (made : List RackCall) → rack.made a made b → After rack made a b) (a b : Running R) (Runs Wants : List Event → List Reply → Type 0) (shape : ShapeOf Runs) (wanted : ShapeOf Wants)
    (facts : Facts) (met : commands.Facts)
    (ran_on : (events : List Event) (replies : List Reply) → AreLines (shape_of a) events → VolumeRunsTo rack a events replies b → (ran : Runs events replies) × (shape events replies ran ≡ shape_of a))
    (wanted_on : (events : List Event) (replies : List Reply) → AreLines (shape_of a) events → RunsBefore rack a events replies b → (ran : Wants events replies) × (wanted events replies ran ≡ shape_of a))
    (unread kept : List ℕ) (fresh : unread ≡ []) where
  abbrev first_left : Option (List ℕ)
  first_left = ahead_of unread facts.left

  abbrev last_left : Option (List ℕ)
  last_left = ahead_of kept facts.rest

  lines_on : (events : List Event) → All (IsInPlace (Some (shape_of a))) events → length (input_of events) ≤ 2 ^ 40 → AreLines (shape_of a) events
  lines_on events placed budget = record { in_place = placed; budget = budget }

  stops_on : (now : Shape) → now ≡ shape_of a → (number : ℕ) (kind : Kind) (z w : Option (List ℕ)) → (s : ServedTo rack (shape_of a) 0 1 number kind first_left last_left z w a b)
      → Told (λ p q. (text : List ℕ) × StopsOn now s.events kind p text) facts.left facts.rest
  stops_on now same number kind z w s =
      let at : 0 + length (input_of s.events) ≡ length (input_of s.events) = omega arith in
      let refused = subst (λ (n : ℕ). Told (λ p q. IsRefused (Some (shape_of a)) (2 ^ 40 - n) p kind) s.middle last_left) at s.refused in
      let all = Told-then (BeginsAll (Some (shape_of a)) s.events) (λ p q. IsRefused (Some (shape_of a)) (2 ^ 40 - length (input_of s.events)) p kind)
      (λ p q. (text : List ℕ) × StopsOn (shape_of a) s.events kind p text) (λ p q r f refused. (q, stops (shape_of a) s.events kind p q f refused)) first_left s.middle last_left s.served.input refused in
      subst (λ (x : Shape). Told (λ p q. (text : List ℕ) × StopsOn x s.events kind p text) facts.left facts.rest) (sym same)
      (rest_told (λ p. (text : List ℕ) × StopsOn (shape_of a) s.events kind p text) kept facts.left facts.rest
      (fresh_told (λ p q. (text : List ℕ) × StopsOn (shape_of a) s.events kind p text) unread facts.left last_left fresh all))

  cut_by : LinesCut rack [] (shape_of a) 0 first_left facts.rest facts.taken facts.given a b ⊎ RefusedInPart rack (shape_of a) 0 1 first_left last_left facts.taken facts.given a b
      → ResumeCutBy Runs facts ⊎ ResumeCutRefusalBy Runs shape facts
  cut_by (inl h) = inl (record {
    events = h.events;
    replies = h.replies;
    last = h.last;
    ran = (ran_on h.events (h.replies ++ h.last ∷ []) (lines_on h.events h.in_place (omega (arith, h.budget))) h.runs).0;
    input = fresh_told (StartsWith (input_of h.events)) unread facts.left facts.rest fresh h.input;
    output = h.output;
  })
  cut_by (inr h) =
      let s = h.served in
      let ran = ran_on s.events s.served.replies (lines_on s.events s.served.in_place (omega (arith, s.budget))) (weaker_runs rack none both law a b s.events s.served.replies s.served.runs) in
      inr (record {
        events = s.events;
        replies = s.served.replies;
        kind = h.kind;
        ran = ran.0;
        input = stops_on (shape s.events s.served.replies ran.0) ran.1 h.number h.kind facts.taken h.before s;
        output = up_to (output_of s.served.replies) (refusal (length s.events + 1) h.kind) facts.taken h.before facts.given s.served.output
            (subst (λ (n : ℕ). Told (TookPart (refusal n h.kind)) h.before facts.given) s.count h.refused);
      })

  -- the next line, behind those on the array
  awaits : (now : Shape) → now ≡ shape_of a → (events : List Event)
      → Told (StopsBefore (longest (Some (shape_of a))) (2 ^ 40 - (0 + length (input_of events))) (input_of events)) first_left facts.rest
      → Told (StopsBefore (longest (Some now)) (2 ^ 40 - length (input_of events)) (input_of events)) facts.left facts.rest
  awaits now same events told =
      let at : 0 + length (input_of events) ≡ length (input_of events) = omega arith in
      let here = subst (λ (n : ℕ). Told (StopsBefore (longest (Some (shape_of a))) (2 ^ 40 - n) (input_of events)) first_left facts.rest) at told in
      let most = subst (λ (x : Shape). Told (StopsBefore (longest (Some x)) (2 ^ 40 - length (input_of events)) (input_of events)) first_left facts.rest) (sym same) here in
      fresh_told (StopsBefore (longest (Some now)) (2 ^ 40 - length (input_of events)) (input_of events)) unread facts.left facts.rest fresh most

  abbrev Wanting : Type 0
  Wanting = ResumeWantedBy Wants wanted facts ⊎ (ResumeDoneBy Wants facts ⊎ ResumeListedBy Wants facts)

  wanted_by : ((facts.rest ≡ facts.left) × (facts.given ≡ facts.taken)) ⊎ LinesRanOut rack [] (shape_of a) 0 first_left facts.rest facts.taken facts.given a b
      → ((facts.rest ≡ facts.left) × (facts.given ≡ facts.taken)) ⊎ Wanting
  wanted_by (inl h) = inl h
  wanted_by (inr (inl h)) =
      let ran = wanted_on h.events h.replies (lines_on h.events h.in_place (omega (arith, h.budget))) h.runs in
      inr (inl (record {
        events = h.events;
        replies = h.replies;
        ran = ran.0;
        input = awaits (wanted h.events h.replies ran.0) ran.1 h.events h.input;
        output = h.output;
      }))
  wanted_by (inr (inr (inl h))) = inr (inr (inl (record {
    events = h.events;
    last = h.last;
    replies = h.replies;
    notes = h.notes;
    ran = (wanted_on (h.events ++ h.last ∷ []) h.replies (lines_on (h.events ++ h.last ∷ []) h.in_place (omega (arith, h.budget))) h.runs).0;
    input = fresh_told (StartsWith (input_of (h.events ++ h.last ∷ []))) unread facts.left facts.rest fresh h.input;
    output = h.output;
  })))
  wanted_by (inr (inr (inr h))) = inr (inr (inr (record {
    events = h.events;
    replies = h.replies;
    last = h.last;
    reply = h.reply;
    text = h.text;
    lines = h.lines;
    ran = (wanted_on (h.events ++ h.last ∷ []) (h.replies ++ h.reply ∷ []) (lines_on (h.events ++ h.last ∷ []) h.in_place (omega (arith, h.budget))) h.runs).0;
    input = fresh_told (StartsWith (input_of (h.events ++ h.last ∷ []))) unread facts.left facts.rest fresh h.input;
    output = h.output;
  })))

  pub ends_resume : (status : Status) → (status ≡ Done → AllServed rack (shape_of a) 0 first_left last_left facts.taken facts.given a b)
      → (status ≡ BadLine → RefusedBehind rack (shape_of a) 0 1 first_left last_left facts.taken facts.given a b)
      → (status ≡ ReadFault → LinesBrokeOff rack [] (shape_of a) 0 first_left facts.rest facts.taken facts.given a b)
      → (status ≡ WriteFault → LinesCut rack [] (shape_of a) 0 first_left facts.rest facts.taken facts.given a b
      ⊎ RefusedInPart rack (shape_of a) 0 1 first_left last_left facts.taken facts.given a b)
      → (status ≡ NoMemory → ((facts.rest ≡ facts.left) × (facts.given ≡ facts.taken)) ⊎ LinesRanOut rack [] (shape_of a) 0 first_left facts.rest facts.taken facts.given a b)
      → IsOfReplay status → EndsResumeBy Runs Wants shape wanted facts met status
  ends_resume Done all bad broken cut wanting never =
      let h = all refl in
      record {
        events = h.events;
        replies = h.served.replies;
        ran = (ran_on h.events h.served.replies (lines_on h.events h.served.in_place (omega (arith, h.budget))) (weaker_runs rack none both law a b h.events h.served.replies h.served.runs)).0;
        input = rest_ended (λ l. l ≡ input_of h.events) kept facts.left facts.rest (fresh_told (λ p q. (p ≡ input_of h.events) × (q ≡ [])) unread facts.left last_left fresh h.end);
        output = h.served.output;
      }
  ends_resume BadLine all bad broken cut wanting never =
      let h = bad refl in
      let s = h.served in
      let ran = ran_on s.events s.served.replies (lines_on s.events s.served.in_place (omega (arith, s.budget))) (weaker_runs rack none both law a b s.events s.served.replies s.served.runs) in
      record {
        events = s.events;
        replies = s.served.replies;
        kind = h.kind;
        ran = ran.0;
        input = stops_on (shape s.events s.served.replies ran.0) ran.1 h.number h.kind facts.taken h.before s;
        output = took_last (output_of s.served.replies) (refusal (length s.events + 1) h.kind) facts.taken h.before facts.given s.served.output
            (subst (λ (n : ℕ). Told (Took (refusal n h.kind)) h.before facts.given) s.count h.refused);
      }
  ends_resume ReadFault all bad broken cut wanting never =
      let h = broken refl in
      record {
        events = h.events;
        replies = h.replies;
        ran = (ran_on h.events h.replies (lines_on h.events h.in_place (omega (arith, h.budget))) (weaker_runs rack none both law a b h.events h.replies h.runs)).0;
        input = fresh_told (GaveLines (input_of h.events)) unread facts.left facts.rest fresh h.input;
        output = h.output;
      }
  ends_resume WriteFault all bad broken cut wanting never = inr (cut_by (cut refl))
  ends_resume NoMemory all bad broken cut wanting never = wanted_by (wanting refl)
  ends_resume Usage all bad broken cut wanting never = absurd never
  ends_resume NoState all bad broken cut wanting never = absurd never
  ends_resume Unclean all bad broken cut wanting never = absurd never
  ends_resume Refused all bad broken cut wanting never = absurd never
