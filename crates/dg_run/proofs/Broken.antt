-- A whole replay that breaks off: by a fault of the source, by a fault of the sink, or for want of memory.
use Rattle.std.proofs.Common.{◌≡◌, ◌≤◌, ◌+◌, ◌-◌, ◌^◌, ℕ, List, [], ◌∷◌, ◌++◌, length, take, refl, sym, ◌∙◌, ap, subst, arith, append_assoc, inl, inr, length-append}
use Rattle.std.specs.Prelude.{Option, Some, None, All, Result, Ok, Err, OnErr}
use Rattle.std.specs.Option.{option_map}
use Rattle.std.proofs.lemmas.List.{append-nil}
use Rattle.dg_io.specs.Told.{AreAny, Told, Took, TookPart}
use Rattle.dg_io.specs.declared.outside.Rack.{Ghosts}
use Rattle.dg_io.specs.RackCalls.{RackCall}
use Rattle.dg_io.specs.RackWords.{After}
use Rattle.dg_model.specs.Moments.{HistoryOf, Moment}
use Rattle.dg_model.specs.States.{Counts}
use Rattle.dg_model.specs.declared.shapes.Shape.{Shape}
use Rattle.dg_model.specs.declared.events.Event.{Event}
use Rattle.dg_model.specs.declared.replies.Reply.{Reply}
use Rattle.dg_model.specs.declared.replies.Reply.TheVariants.{Done}
use Rattle.dg_text.specs.Lines.{AreInPlace, line_of, input_of, longest, IsInPlace}
use Rattle.dg_text.specs.Replies.{output_of, refusal, reply_line}
use Rattle.dg_run.specs.Arrays.{AnsweredToPart, ArrayCut, ArrayRanOut}
use Rattle.dg_run.specs.Endings.{GaveLines, LinesBrokeOff, LinesCut, LinesDone, LinesListed, LinesWanted, StartsWith, StopsBefore, TookUpTo}
use Rattle.dg_run.specs.Events.{Begins}
use Rattle.dg_run.specs.Inputs.{AwaitsLine, BeginsWithLine}
use Rattle.dg_run.specs.Replays.{BrokeOff, BrokeOffBy, CutRefusalBy, CutReplyBy, IsCutBy, RanOut, RanOutBefore, RanOutBehind, RanOutWithin, StopsAt, TellsBoundaries, WantsFirst, shape_after}
use Rattle.dg_run.specs.Histories.{Running, RunsBefore, VolumeRunsTo}
use Rattle.dg_run.specs.Steps.{shape_of}
use Rattle.dg_run.proofs.Happening.{weaker_runs}
use Rattle.dg_run.proofs.Runs.{no_runs}
use Rattle.dg_run.proofs.ToldSteps.{Told-each, Told-refl, Told-then}
use Rattle.dg_run.proofs.Whole.{Meant, cut_input, ran_nothing, rest_told, stops_text, took_first}

any_starts : (left rest : Option (List ℕ)) → Told AreAny left rest → Told (StartsWith []) left rest
any_starts left rest told = Told-each AreAny (StartsWith []) (λ p q any. record { more = p; split = refl }) left rest told

starts_more : (make : Event) (events : List Event) (text left rest : Option (List ℕ)) → Told (Begins None make) text left → Told (StartsWith (input_of events)) left rest
    → Told (StartsWith (input_of (make ∷ events))) text rest
starts_more make events text left rest line told = Told-then (Begins None make) (StartsWith (input_of events)) (StartsWith (input_of (make ∷ events))) (λ p q r f s. record {
  more = s.more;
  split = f.line ∙ ap (λ (l : List ℕ). line_of make ++ l) s.split ∙ sym (append_assoc (line_of make) (input_of events) s.more);
}) text left rest line told

-- a text was written, and then a part of another
pub up_to : (text part : List ℕ) (x m z : Option (List ℕ)) → Told (Took text) x m → Told (TookPart part) m z → Told (TookUpTo text part) x z
up_to text part x m z wrote cut = Told-then (Took text) (TookPart part) (TookUpTo text part) (λ p q o f s. record {
  n = s.0;
  is = s.1 ∙ ap (λ (l : List ℕ). l ++ take s.0 part) f ∙ append_assoc p text (take s.0 part);
}) x m z wrote cut

-- the answer to the first line, and then others and a listing
took_again : (out text : List ℕ) (x y : Option (List ℕ)) → Told (Took (reply_line Done ++ (out ++ text))) x y → Told (Took ((reply_line Done ++ out) ++ text)) x y
took_again out text x y told = subst (λ (l : List ℕ). Told (Took l) x y) (sym (append_assoc (reply_line Done) out text)) told

-- ---- nothing was done

-- memory was wanting for the first line
pub ran_out_next : (before : Counts) (tells : ℕ → Type 0) (x z t v : Option (List ℕ)) → Told (AwaitsLine (longest None) (2 ^ 40)) x z → v ≡ t → RanOut before tells x z t v
ran_out_next before tells x z t v told same =
    let none = ran_nothing before (λ q. None) (Unit {0}) tells in
    inr (inl (record {
      events = [];
      replies = [];
      in_place = none.in_place;
      budget = none.budget;
      final = none.final;
      history = none.history;
      input = Told-each (AwaitsLine (longest None) (2 ^ 40)) (StopsBefore (longest None) (2 ^ 40 - 0) []) (λ p q next. record { more = p; split = refl; next = next }) x z told;
      output = subst (λ (o : Option (List ℕ)). Told (Took []) t o) (sym same) (Told-refl (Took []) (λ b. sym (append-nil b)) t);
    }))

pub ran_out_first : (before : Counts) (tells : ℕ → Type 0) (x z t v : Option (List ℕ)) → WantsFirst x z t v → RanOut before tells x z t v
ran_out_first before tells x z t v (inl left, same) = inl (left, same)
ran_out_first before tells x z t v (inr told, same) = ran_out_next before tells x z t v told same

pub broke_off_first : (now : Counts) (bytes : ℕ → Option (List ℕ)) (steady : Type 0) (tells : ℕ → Type 0) (x z t v : Option (List ℕ)) → Told (GaveLines []) x z → v ≡ t → BrokeOff now now bytes bytes steady tells x z t v
broke_off_first now bytes steady tells x z t v told same = record {
  events = [];
  replies = [];
  ran = ran_nothing now bytes steady tells;
  input = told;
  output = subst (λ (o : Option (List ℕ)). Told (Took []) t o) (sym same) (Told-refl (Took []) (λ b. sym (append-nil b)) t);
}

-- ---- behind a first line that made an array

-- Behind such a line there is a history of a run, whatever the array stands for now.
pub record WasLed {R : Type 0} (ghosts : Ghosts R) (before : Counts) (tells : ℕ → Type 0) (make : Event) (a b : Running R) : Type 0 where
  pub in_place : (events : List Event) → All (IsInPlace (Some (shape_of a))) events → AreInPlace (make ∷ events)
  pub led : (events : List Event) (replies : List Reply) → RunsBefore ghosts a events replies b
      → (final : Moment) × HistoryOf (TellsBoundaries tells final.state) before (make ∷ events) (Done ∷ replies) final

module _ {R : Type 0} (ghosts : Ghosts R) (none : (s : R) → ghosts.made s [] s)
    (both : (a b c : R) (x y : List RackCall) → ghosts.made a x b → ghosts.made b y c → ghosts.made a (x ++ y) c) (law : (a b : R) (made : List RackCall) → ghosts.made a made b → After ghosts made a b)
    (Means : List Event → List Reply → Type 0) (make : Event) (shape : Shape) (first : ℕ) (a b : Running R) (m : Meant ghosts Means make shape first a b) where
  pub array_broke_off : (text left rest taken given : Option (List ℕ)) → Told (Begins None make) text left → LinesBrokeOff ghosts (reply_line Done) (shape_of a) first left rest taken given a b
      → BrokeOffBy Means text rest taken given
  array_broke_off text left rest taken given line lines = record {
    events = make ∷ lines.events;
    replies = Done ∷ lines.replies;
    ran = m.runs lines.events lines.replies (weaker_runs ghosts none both law a b lines.events lines.replies lines.runs) lines.in_place lines.budget;
    input = Told-then (Begins None make) (GaveLines (input_of lines.events)) (GaveLines (input_of (make ∷ lines.events))) (λ p q r f s. record {
      part = s.part;
      split = f.line ∙ ap (λ (l : List ℕ). line_of make ++ l) s.split ∙ sym (append_assoc (line_of make) (input_of lines.events) (s.part ++ r));
      none = s.none;
    }) text left rest line lines.input;
    output = lines.output;
  }

  still_runs : b ≡ a → VolumeRunsTo ghosts a [] [] b
  still_runs same = subst (λ (s : Running R). VolumeRunsTo ghosts a [] [] s) (sym same) (weaker_runs ghosts none both law a a [] [] (no_runs ghosts a))

  first_cut : (text left rest taken given : Option (List ℕ)) → first ≤ 2 ^ 40 → Told (Begins None make) text left → Told (TookPart (reply_line Done)) taken given → b ≡ a → Told AreAny left rest
      → CutReplyBy Means text rest taken given
  first_cut text left rest taken given small line part same any = record {
    events = make ∷ [];
    replies = [];
    last = Done;
    ran = m.runs [] [] (still_runs same) (λ k d h. absurd (omega arith)) (omega (arith, small));
    input = starts_more make [] text left rest line (any_starts left rest any);
    output = Told-each (TookPart (reply_line Done)) (TookUpTo [] (reply_line Done)) (λ p q s. record { n = s.0; is = s.1 }) taken given part;
  }

  last_cut : (text left rest taken given : Option (List ℕ)) → Told (Begins None make) text left → LinesCut ghosts (reply_line Done) (shape_of a) first left rest taken given a b
      → CutReplyBy Means text rest taken given
  last_cut text left rest taken given line lines = record {
    events = make ∷ lines.events;
    replies = Done ∷ lines.replies;
    last = lines.last;
    ran = m.runs lines.events (lines.replies ++ lines.last ∷ []) lines.runs lines.in_place lines.budget;
    input = starts_more make lines.events text left rest line lines.input;
    output = lines.output;
  }

  refusal_cut : (unread : List ℕ) (text left rest taken given : Option (List ℕ)) → Told (Begins None make) text left
      → AnsweredToPart ghosts (shape_of a) first left (option_map (λ more. unread ++ more) rest) taken given a b → CutRefusalBy Means text rest taken given
  refusal_cut unread text left rest taken given line to =
      let s = to.served in
      let events = make ∷ s.events in
      let ahead = option_map (λ more. unread ++ more) rest in
      let number : to.number ≡ length (make ∷ s.events) + 1 = omega (arith, s.count) in
      let cut = cut_input ghosts none both law Means make shape first a b m to.number to.kind left ahead to.middle to.before s in
      let stops = stops_text Means make shape m.makes s.events to.kind text left ahead line cut in
      let input = Told-each _ (λ p q. (more : List ℕ) × (p ≡ input_of events ++ more) × StopsAt events to.kind more) (λ p q h. (h.0, h.1, h.2)) text ahead stops in
      let wrote = took_first s.served.replies taken to.middle to.before to.ok s.served.output in
      let part = subst (λ (n : ℕ). Told (TookPart (refusal n to.kind)) to.before given) number to.refused in
      record {
        events = events;
        replies = Done ∷ s.served.replies;
        kind = to.kind;
        ran = m.runs s.events s.served.replies (weaker_runs ghosts none both law a b s.events s.served.replies s.served.runs) s.served.in_place s.budget;
        input = rest_told (λ p. (more : List ℕ) × (p ≡ input_of events ++ more) × StopsAt events to.kind more) unread text rest input;
        output = up_to (output_of (Done ∷ s.served.replies)) (refusal (length events + 1) to.kind) taken to.before given wrote part;
      }

  pub array_cut : (unread : List ℕ) (text left rest taken given : Option (List ℕ)) → first ≤ 2 ^ 40 → Told (Begins None make) text left
      → ArrayCut ghosts (shape_of a) first left (option_map (λ more. unread ++ more) rest) rest taken given a b → IsCutBy Means text rest taken given
  array_cut unread text left rest taken given small line (inl at_first) = inl (first_cut text left rest taken given small line at_first.0 at_first.1 at_first.2)
  array_cut unread text left rest taken given small line (inr (inl lines)) = inl (last_cut text left rest taken given line lines)
  array_cut unread text left rest taken given small line (inr (inr to)) = inr (refusal_cut unread text left rest taken given line to)

  module _ (before : Counts) (tells : ℕ → Type 0) (w : WasLed ghosts before tells make a b) where
    -- the same line is next behind the first one
    awaits_more : (events : List Event) (text left rest : Option (List ℕ)) → Told (Begins None make) text left
        → Told (StopsBefore (longest (Some (shape_of a))) (2 ^ 40 - (first + length (input_of events))) (input_of events)) left rest
        → Told (StopsBefore (longest (shape_after (make ∷ events))) (2 ^ 40 - length (input_of (make ∷ events))) (input_of (make ∷ events))) text rest
    awaits_more events text left rest line lines =
        let size : first + length (input_of events) ≡ length (input_of (make ∷ events)) = (let own = m.size in omega (arith, length-append (line_of make) (input_of events), own)) in
        let next = subst (λ (n : ℕ). Told (StopsBefore (longest (Some (shape_of a))) (2 ^ 40 - n) (input_of events)) left rest) size lines in
        let here : Some (shape_of a) ≡ shape_after (make ∷ events) = ap (λ (h : Shape). Some h) m.shape_is ∙ sym (m.makes events) in
        let most = subst (λ (h : Option Shape). Told (StopsBefore (longest h) (2 ^ 40 - length (input_of (make ∷ events))) (input_of events)) left rest) here next in
        Told-then (Begins None make) (StopsBefore (longest (shape_after (make ∷ events))) (2 ^ 40 - length (input_of (make ∷ events))) (input_of events))
        (StopsBefore (longest (shape_after (make ∷ events))) (2 ^ 40 - length (input_of (make ∷ events))) (input_of (make ∷ events))) (λ p q r f s. record {
          more = s.more;
          split = f.line ∙ ap (λ (l : List ℕ). line_of make ++ l) s.split ∙ sym (append_assoc (line_of make) (input_of events) s.more);
          next = s.next;
        }) text left rest line most

    within : (events : List Event) → first + length (input_of events) ≤ 2 ^ 40 → length (input_of (make ∷ events)) ≤ 2 ^ 40
    within events budget = let own = m.size in omega (arith, own, budget, length-append (line_of make) (input_of events))

    lines_wanted : (text left rest taken given : Option (List ℕ)) → Told (Begins None make) text left → LinesWanted ghosts (reply_line Done) (shape_of a) first left rest taken given a b
        → RanOutBefore before tells text rest taken given
    lines_wanted text left rest taken given line lines =
        let led = w.led lines.events lines.replies lines.runs in
        record {
          events = make ∷ lines.events;
          replies = Done ∷ lines.replies;
          in_place = w.in_place lines.events lines.in_place;
          budget = within lines.events lines.budget;
          final = led.0;
          history = led.1;
          input = awaits_more lines.events text left rest line lines.input;
          output = lines.output;
        }

    lines_done : (text left rest taken given : Option (List ℕ)) → Told (Begins None make) text left → LinesDone ghosts (reply_line Done) (shape_of a) first left rest taken given a b
        → RanOutBehind before tells text rest taken given
    lines_done text left rest taken given line lines =
        let events = lines.events ++ lines.last ∷ [] in
        let led = w.led events lines.replies lines.runs in
        record {
          events = make ∷ lines.events;
          last = lines.last;
          replies = Done ∷ lines.replies;
          notes = lines.notes;
          in_place = w.in_place events lines.in_place;
          budget = within events lines.budget;
          final = led.0;
          history = led.1;
          input = starts_more make events text left rest line lines.input;
          output = lines.output;
        }

    lines_listed : (text left rest taken given : Option (List ℕ)) → Told (Begins None make) text left → LinesListed ghosts (reply_line Done) (shape_of a) first left rest taken given a b
        → RanOutWithin before tells text rest taken given
    lines_listed text left rest taken given line lines =
        let events = lines.events ++ lines.last ∷ [] in
        let led = w.led events (lines.replies ++ lines.reply ∷ []) lines.runs in
        record {
          events = make ∷ lines.events;
          replies = Done ∷ lines.replies;
          last = lines.last;
          reply = lines.reply;
          text = lines.text;
          lines = lines.lines;
          in_place = w.in_place events lines.in_place;
          budget = within events lines.budget;
          final = led.0;
          history = led.1;
          input = starts_more make events text left rest line lines.input;
          output = took_again (output_of lines.replies) lines.text taken given lines.output;
        }

    pub array_ran_out : (text left rest taken given : Option (List ℕ)) → Told (Begins None make) text left → Told (BeginsWithLine (longest None) (2 ^ 40)) text left
        → ArrayRanOut ghosts (shape_of a) first left rest taken given a b → RanOut before tells text rest taken given
    array_ran_out text left rest taken given line whole (inl none) =
        ran_out_next before tells text rest taken given
        (Told-then (BeginsWithLine (longest None) (2 ^ 40)) AreAny (AwaitsLine (longest None) (2 ^ 40)) (λ p q r f s. (q, f)) text left rest whole none.1) none.0
    array_ran_out text left rest taken given line whole (inr (inl lines)) = inr (inl (lines_wanted text left rest taken given line lines))
    array_ran_out text left rest taken given line whole (inr (inr (inl lines))) = inr (inr (inl (lines_done text left rest taken given line lines)))
    array_ran_out text left rest taken given line whole (inr (inr (inr lines))) = inr (inr (inr (lines_listed text left rest taken given line lines)))

-- a fresh buffer has nothing ahead of its source
pub fresh_is : (unread : List ℕ) (left : Option (List ℕ)) → unread ≡ [] → option_map (λ more. unread ++ more) left ≡ left
fresh_is unread None fresh = refl
fresh_is unread (Some a) fresh = ap (λ (l : List ℕ). Some (l ++ a)) fresh

-- no memory for the array of the first line
pub wants_array : {T E : Type 0} (result : Result T E) (unread : List ℕ) → unread ≡ [] → (left mid rest taken given : Option (List ℕ))
    → Told (BeginsWithLine (longest None) (2 ^ 40)) (option_map (λ more. unread ++ more) left) mid → OnErr result (Told AreAny mid rest × (given ≡ taken)) → OnErr result (WantsFirst left rest taken given)
wants_array (Ok done) unread fresh left mid rest taken given line none = tt
wants_array (Err fault) unread fresh left mid rest taken given line none =
    let here = subst (λ (x : Option (List ℕ)). Told (BeginsWithLine (longest None) (2 ^ 40)) x mid) (fresh_is unread left fresh) line in
    (inr (Told-then (BeginsWithLine (longest None) (2 ^ 40)) AreAny (AwaitsLine (longest None) (2 ^ 40)) (λ p q r f s. (q, f)) left mid rest here none.0), none.1)
