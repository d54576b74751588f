-- What holds once the trace of an image was replayed.
use Rattle.std.proofs.Common.{◌≡◌, ◌∙◌, ℕ, List, [], ◌∷◌, ◌++◌, Some, refl, sym, ap, subst}
use Rattle.std.specs.Prelude.{All, None, Ok, Option, IsSome}
use Rattle.std.proofs.lemmas.Bool.{false≢true}
use Rattle.std.proofs.lemmas.List.{append-nil}
use Rattle.std.proofs.lemmas.List.Elements.{All-cons, All-nil}
use Rattle.dg_io.specs.Told.{Told, Took}
use Rattle.dg_model.specs.Causes.{NoneRose}
use Rattle.dg_model.specs.Moments.{HistoryOf}
use Rattle.dg_model.specs.Runs.{Trace}
use Rattle.dg_model.specs.States.{Counts, State}
use Rattle.dg_model.specs.declared.events.Event.{Event}
use Rattle.dg_model.specs.declared.replies.Reply.{Reply}
use Rattle.dg_promise.specs.Promises.{AreTold}
use Rattle.dg_run.specs.Calls.{Facts, streams_of}
use Rattle.dg_run.specs.Ends.{EndsReplay, EndsTrace}
use Rattle.dg_run.specs.Replays.{KeepsNone, TellsBoundaries}
use Rattle.dg_run.specs.declared.top.Status.TheVariants.{Done as StatusDone}
use Rattle.dg_text.specs.Lines.{AreBytes, AreInPlace, input_of}
use Rattle.dg_trace.specs.Answers.{IsAccepted, answer_text, events_of, volume_bytes}
use Rattle.dg_trace.specs.Images.{GaveImage}
use Rattle.dg_trace.specs.Replays.{IsReplayed}
use Rattle.dg_trace.specs.Traces.{write_of, writes_of}
use Rattle.dg_trace.specs.Volumes.{shape_for}
use Rattle.dg_trace.specs.declared.asked.Asked.{Asked}
use Rattle.dg_uses.proofs.Held.{holds_whole}
use Rattle.dg_uses.proofs.InUse.{IsViewed, viewed_stay}
use Rattle.dg_uses.proofs.Lines.{OneInput}
use Rattle.dg_uses.proofs.Promised.{trace_told}
use Rattle.dg_uses.proofs.Quiet.{quiet, quiet_counts}
use Rattle.dg_uses.proofs.QuietRuns.{quiet_history, stay_for}
use Rattle.dg_uses.specs.Traced.{HoldsTraced}
use Rattle.ufs_model.specs.declared.geometries.Geometry.{Geometry}

abbrev pub TraceIsInput : Type 0
TraceIsInput = (asked : Asked) (image : List ℕ) (g : Geometry) → AreBytes image → IsAccepted asked image g → AreInPlace (events_of asked image g)

abbrev pub ReplayHolds : Type 0
ReplayHolds = (asked : Asked) (image : List ℕ) (g : Geometry) (before : Counts) (replies : List Reply) (final : State) → IsAccepted asked image g
    → Trace AreTold before (events_of asked image g) replies final → NoneRose before.faults final.counts.faults → IsReplayed g image replies final

-- where both ends are told, what was done between them holds
pub told_both : (step : List ℕ → List ℕ → Type 0) (x y : Option (List ℕ)) (a : List ℕ) → x ≡ Some a → IsSome y → Told step x y → (b : List ℕ) × (y ≡ Some b) × step a b
told_both step None y a is some told = absurd (cc is)
told_both step (Some c) None a is some told = absurd (false≢true some)
told_both step (Some c) (Some b) a is some told = let same : c ≡ a = cc is in (b, refl, subst (λ (l : List ℕ). step l b) same told)

-- the image was traced: it is accepted, and its trace is what was printed
record IsTraced (asked : Asked) (image : List ℕ) (given : Option (List ℕ)) : Type 0 where
  g : Geometry
  accepted : IsAccepted asked image g
  bytes : AreBytes image
  text : given ≡ Some (input_of (events_of asked image g))

traced : (f : Facts) (asked : Asked) (image : List ℕ) → EndsTrace (streams_of f) asked StatusDone → f.left ≡ Some image → IsSome f.rest → f.taken ≡ Some [] → IsSome f.given
    → IsTraced asked image f.given
traced f asked image ends left rest taken given =
    let read = told_both (GaveImage ends.image) f.left f.rest image left rest ends.read in
    let is = ends.ends.1.is in
    let none = read.2.whole is.has.has.size.most in
    let same : image ≡ ends.image = read.2.split ∙ ap (λ (l : List ℕ). ends.image ++ l) none ∙ append-nil ends.image in
    let out = told_both (Took (answer_text asked ends.image (Ok ends.ends.0))) f.taken f.given [] taken given ends.ends.1.output in
    let all : IsTraced asked ends.image f.given = record { g = ends.ends.0; accepted = is; bytes = ends.bytes; text = out.1 ∙ ap Some out.2 } in
    subst (λ (l : List ℕ). IsTraced asked l f.given) (sym same) all

abbrev rest_of : List Event → List Event
rest_of [] = []
rest_of (event ∷ events) = events

writes_viewed : (l : ℕ) (image blocks : List ℕ) → All IsViewed (writes_of l image blocks)
writes_viewed l image [] = All-nil IsViewed
writes_viewed l image (b ∷ blocks) = All-cons IsViewed (write_of l image b) (writes_of l image blocks) tt (writes_viewed l image blocks)

pub holds_traced : OneInput → TraceIsInput → ReplayHolds → (steady : Type 0) (tells : ℕ → Type 0) (t f : Facts) (asked : Asked) (image : List ℕ)
    → EndsTrace (streams_of t) asked StatusDone → t.left ≡ Some image → IsSome t.rest → t.taken ≡ Some [] → IsSome t.given
    → EndsReplay steady tells f StatusDone → f.left ≡ t.given → IsSome f.rest → ((q : ℕ) → tells q) → NoneRose f.before.faults f.now.faults
    → HoldsTraced asked image f.taken f.given f.bytes
holds_traced one input replay steady tells t f asked image ends left rest taken given replayed same more told none =
    let is = traced t asked image ends left rest taken given in
    let read = told_both (λ b a. (b ≡ input_of replayed.events) × (a ≡ [])) f.left f.rest (input_of (events_of asked image is.g)) (same ∙ is.text) more replayed.input in
    let events : replayed.events ≡ events_of asked image is.g =
    one replayed.events (events_of asked image is.g) replayed.ran.in_place (input asked image is.g is.bytes is.accepted) (sym read.2.0) in
    let final = replayed.ran.final in
    let Known = TellsBoundaries tells final.state in
    let known : Known = λ q below. told q in
    let shape = shape_for asked is.g in
    let writes = rest_of (events_of asked image is.g) in
    let history = subst (λ (es : List Event). HistoryOf Known f.before es replayed.replies final) events replayed.ran.history in
    let stay = stay_for writes replayed.replies (λ r. viewed_stay writes r (writes_viewed is.g.fsize (volume_bytes is.g image) _)) in
    let q = quiet_history Known f.before shape writes replayed.replies final (input asked image is.g is.bytes is.accepted).0.most_boundaries stay history in
    let trace = trace_told (quiet_counts shape.b q.first) shape writes replayed.replies (quiet shape.b final.state) known q.trace in
    let done = replay asked image is.g (quiet_counts shape.b q.first) replayed.replies (quiet shape.b final.state) is.accepted trace
    (q.none (subst (λ (c : Counts). NoneRose f.before.faults c.faults) (sym replayed.ran.counts) none)) in
    record {
      g = is.g;
      accepted = is.accepted;
      replies = replayed.replies;
      done = done.done;
      output = replayed.output;
      final = final.state;
      volume = record { count = done.holds.count; each = done.holds.each };
      holds = holds_whole f.bytes final.state q.seated q.whole (replayed.ran.holds (subst (λ (es : List Event). KeepsNone es) (sym events) tt) known);
    }
