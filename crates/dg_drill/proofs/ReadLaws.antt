-- The readings of a drill's files.
use Rattle.std.proofs.Common.{◌≡◌, ◌∙◌, ◌<◌, ◌≤◌, ◌+◌, ◌++◌, ℕ, Bool, true, false, List, [], ◌∷◌, length, refl, sym, ap, subst, inl, inr, arith, length-append}
use Rattle.std.specs.Prelude.{if◌then◌else◌, ◌==◌}
use Rattle.std.specs.Cmp.Lexicographic.{pointwise}
use Rattle.std.specs.List.{concat}
use Rattle.std.proofs.lemmas.List.FromFn.{length-map-range_with_len, map-range_with_len_more}
use Rattle.dg_drill.proofs.ChainLaws.{led_more, led_none, steps_of}
use Rattle.dg_drill.proofs.Comparing.{whole_is}
use Rattle.dg_model.proofs.Lined.{in_lines}
use Rattle.dg_drill.proofs.Counts.{bytes_more, bytes_push, given_more, given_push, unavailable_push}
use Rattle.dg_drill.specs.Chains.{HasRead, HasReadAll, LedTo}
use Rattle.dg_drill.specs.Comparisons.{Compared, ComparedPart, fresh, is_whole}
use Rattle.dg_drill.specs.Drills.{read_event, read_events}
use Rattle.ufs_drill.specs.Items.{byte_of, bytes_of, file_bytes, file_path, size_of}
use Rattle.dg_drill.specs.Outcomes.{IsTally, outcome_by, outcome_of, with_outcome}
use Rattle.dg_drill.specs.Reports.{gives, is_unavailable}
use Rattle.dg_drill.specs.declared.comparers.Comparer.{Comparer}
use Rattle.dg_drill.specs.declared.reads.Outcome.{Outcome}
use Rattle.dg_drill.specs.declared.reads.Outcome.TheVariants.{Given, Other, Unavailable}
use Rattle.dg_drill.specs.declared.reads.Tally.{Tally}
use Rattle.dg_io.specs.declared.outside.Rack.{Ghosts}
use Rattle.dg_model.specs.Shapes.{IsShape}
use Rattle.dg_model.specs.States.{State}
use Rattle.dg_model.specs.declared.shapes.Shape.{Shape}
use Rattle.dg_model.specs.declared.events.Event.{Event}
use Rattle.dg_model.specs.declared.events.Event.TheVariants.{Cat}
use Rattle.dg_model.specs.declared.replies.Reply.{Reply}
use Rattle.dg_model.specs.declared.replies.Reply.TheVariants.{Cut as CutReply, Given as GivenReply, Refused as RefusedReply, Unavailable as UnavailableReply}
use Rattle.dg_volume.specs.Origins.{Always}
use Rattle.dg_volume.specs.Replies.{AnswersCat}
use Rattle.dg_volume.specs.Volumes.{Leaves, StandsIn, StepsBy, StepsTo, any_phase}
use Rattle.dg_volume.specs.declared.phases.AnyPhase.{AnyPhase}
use Rattle.dg_volume.specs.declared.volumes.Volume.{Volume}
use Rattle.ufs_model.specs.declared.reads.PathRefusal.TheVariants.{Bad as RefusedBad, NotDirectory as RefusedNotDirectory, NotFound as RefusedNotFound, NotRegular as RefusedNotRegular}
use Rattle.ufs_path.specs.declared.faults.CatAnswer.{CatAnswer}
use Rattle.ufs_path.specs.declared.faults.CatAnswer.TheVariants.{Bad, Cut, Given as AnswerGiven, NotDirectory, NotFound, NotRegular, SinkFault, Unavailable as AnswerUnavailable}

-- ---- tallies

abbrev one_if : Bool → ℕ
one_if b = if b then 1 else 0

abbrev size_if : Bool → ℕ → ℕ
size_if b size = if b then size else 0

-- what a reply adds to a tally
record Adds (wanted : List ℕ) (size : ℕ) (tally : Tally) (reply : Reply) : Type 0 where
  given : (with_outcome (outcome_of wanted reply) size tally).given ≡ tally.given + one_if (gives wanted reply)
  bytes : (with_outcome (outcome_of wanted reply) size tally).bytes ≡ tally.bytes + size_if (gives wanted reply) size
  unavailable : (with_outcome (outcome_of wanted reply) size tally).unavailable ≡ tally.unavailable + one_if (is_unavailable reply)

-- by both tests, of which one at most is passed
adds_by : (wanted : List ℕ) (size : ℕ) (tally : Tally) (reply : Reply) (given none : Bool) → gives wanted reply ≡ given → is_unavailable reply ≡ none
    → (given ≡ true → none ≡ false) → Adds wanted size tally reply
adds_by wanted size tally reply true true e f apart = absurd (let other = apart refl in cc other)
adds_by wanted size tally reply true false e f apart = record {
  given = rw e refl;
  bytes = rw e refl;
  unavailable = rw (e, f) (omega arith);
}
adds_by wanted size tally reply false true e f apart = record {
  given = rw (e, f) (omega arith);
  bytes = rw (e, f) (omega arith);
  unavailable = rw (e, f) refl;
}
adds_by wanted size tally reply false false e f apart = record {
  given = rw (e, f) (omega arith);
  bytes = rw (e, f) (omega arith);
  unavailable = rw (e, f) (omega arith);
}

-- a reply that gives bytes isn't that they are unavailable
not_both : (wanted : List ℕ) (reply : Reply) → gives wanted reply ≡ true → is_unavailable reply ≡ false
not_both wanted (GivenReply lines) e = refl
not_both wanted UnavailableReply e = absurd (cc e)
not_both wanted reply e = absurd (cc e)

adds : (wanted : List ℕ) (size : ℕ) (tally : Tally) (reply : Reply) → Adds wanted size tally reply
adds wanted size tally reply = adds_by wanted size tally reply (gives wanted reply) (is_unavailable reply) refl refl (not_both wanted reply)

-- a tally grows by one file at most
pub record GrowsFew (size : ℕ) (old new : Tally) : Type 0 where
  pub given : new.given ≤ old.given + 1
  pub bytes : new.bytes ≤ old.bytes + size
  pub unavailable : new.unavailable ≤ old.unavailable + 1

pub outcome_few : (outcome : Outcome) (size : ℕ) (old new : Tally) → new ≡ with_outcome outcome size old → GrowsFew size old new
outcome_few outcome size old new is = subst (λ (t : Tally). GrowsFew size old t) (sym is) (by_outcome outcome)
  where
    by_outcome : (o : Outcome) → GrowsFew size old (with_outcome o size old)
    by_outcome Given = record { given = omega arith; bytes = omega arith; unavailable = omega arith }
    by_outcome Unavailable = record { given = omega arith; bytes = omega arith; unavailable = omega arith }
    by_outcome Other = record { given = omega arith; bytes = omega arith; unavailable = omega arith }

-- one file more is read
tally_more : (seed k : ℕ) (replies : List Reply) (reply : Reply) (tally new : Tally) (size : ℕ) → length replies ≡ k → size ≡ size_of seed k
    → new ≡ with_outcome (outcome_of (bytes_of k size) reply) size tally → IsTally seed replies tally → IsTally seed (replies ++ reply ∷ []) new
tally_more seed k replies reply tally new size number sized is was =
    let more = adds (bytes_of k size) size tally reply in
    let at : 0 + length replies ≡ k = omega (arith, number) in
    let wanted : bytes_of k size ≡ file_bytes seed k = ap (λ (n : ℕ). bytes_of k n) sized in
    let long : length (file_bytes seed k) ≡ size = length-map-range_with_len (byte_of k) 0 (size_of seed k) ∙ sym sized in
    let given = given_push seed 0 replies reply in
    let bytes = bytes_push seed 0 replies reply in
    let none = unavailable_push replies reply in
    let one : given_more seed (0 + length replies) reply ≡ one_if (gives (bytes_of k size) reply) =
    ap (λ (n : ℕ). given_more seed n reply) at ∙ ap (λ (l : List ℕ). one_if (gives l reply)) (sym wanted) in
    let some : bytes_more seed (0 + length replies) reply ≡ size_if (gives (bytes_of k size) reply) size =
    ap (λ (n : ℕ). bytes_more seed n reply) at
    ∙ ap (λ (n : ℕ). size_if (gives (file_bytes seed k) reply) n) long
    ∙ ap (λ (l : List ℕ). size_if (gives l reply) size) (sym wanted) in
    record {
      given_is = ap (λ (t : Tally). t.given) is ∙ more.given ∙ omega (arith, given, one, was.given_is);
      bytes_are = ap (λ (t : Tally). t.bytes) is ∙ more.bytes ∙ omega (arith, bytes, some, was.bytes_are);
      unavailable_is = ap (λ (t : Tally). t.unavailable) is ∙ more.unavailable ∙ omega (arith, none, was.unavailable_is);
    }

-- ---- readings

events_more : (k : ℕ) → read_events (k + 1) ≡ read_events k ++ read_event k ∷ []
events_more k = map-range_with_len_more read_event 0 k k (omega arith)

-- a block has bytes
pub some_bytes : (shape : Shape) → IsShape shape → 0 < shape.l
some_bytes shape h = elim h.block [
  | inl a ↦ omega (arith, a)
  | inr (inl b) ↦ omega (arith, b)
  | inr (inr (inl c)) ↦ omega (arith, c)
  | inr (inr (inr d)) ↦ omega (arith, d)
]

module _ {R : Type 0} (rack : Ghosts R) where
  pub reads_none : (seed : ℕ) (v : Volume AnyPhase R) (state : State) (tally : Tally) → tally ≡ record { given = 0; bytes = 0; unavailable = 0 }
      → StandsIn any_phase rack Always v state → HasReadAll rack seed state 0 tally v
  reads_none seed v state tally is stands = record {
    replies = [];
    next = state;
    led = led_none rack v state stands;
    number = refl;
    tallied = record {
      given_is = ap (λ (t : Tally). t.given) is;
      bytes_are = ap (λ (t : Tally). t.bytes) is;
      unavailable_is = ap (λ (t : Tally). t.unavailable) is;
    };
  }

  pub reads_more : (seed k size : ℕ) (a c : Volume AnyPhase R) (state : State) (tally new : Tally) (outcome : Outcome) → size ≡ size_of seed k
      → new ≡ with_outcome outcome size tally → Leaves any_phase any_phase rack a c → HasReadAll rack seed state k tally a
      → HasRead rack a (read_event k) (bytes_of k size) outcome c → HasReadAll rack seed state (k + 1) new c
  reads_more seed k size a c state tally new outcome sized is leaves was read =
      let step = read.steps was.next was.led.stands in
      let led = led_more rack a c state was.next step.0 (read_events k) was.replies (read_event k) read.reply leaves was.led step.1 step.2 in
      record {
        replies = was.replies ++ read.reply ∷ [];
        next = step.0;
        led = subst (λ (events : List Event). LedTo rack state events (was.replies ++ read.reply ∷ []) c step.0) (sym (events_more k)) led;
        number = length-append was.replies (read.reply ∷ []) ∙ ap (λ (n : ℕ). n + 1) was.number;
        tallied = tally_more seed k was.replies read.reply tally new size was.number sized
            (is ∙ ap (λ (o : Outcome). with_outcome o size tally) read.outcome_is) was.tallied;
      }

  -- ---- one reading

  module _ (old new : Volume AnyPhase R) (touch : List ℕ → List ℕ) (k size : ℕ) where
    abbrev pub gives_file : Reply → Type 0
    gives_file reply = StepsBy any_phase any_phase rack touch old (Cat (file_path k)) reply new

    abbrev pub holds_file : Reply → Type 0
    holds_file reply = StepsTo any_phase any_phase rack old (Cat (file_path k)) reply new

    read_as : (reply : Reply) (outcome : Outcome) → holds_file reply → outcome ≡ outcome_of (bytes_of k size) reply
        → HasRead rack old (read_event k) (bytes_of k size) outcome new
    read_as reply outcome holds is = record { reply = reply; steps = steps_of rack (λ recent. recent) old new (Cat (file_path k)) reply holds; outcome_is = is }

    -- by the answer, and by whether the comparer was handed the whole file
    pub read_by : (answer : CatAnswer) (s : Comparer) (l : ℕ) → 0 < l → AnswersCat Compared ComparedPart (λ t. 0) (fresh k size) s l gives_file holds_file answer
        → HasRead rack old (read_event k) (bytes_of k size) (outcome_by answer (is_whole s)) new
    read_by (AnswerGiven n) s l some rule =
        let file = in_lines l (length rule.0) rule.0 some (omega arith) in
        let whole : is_whole s ≡ pointwise ◌==◌ (concat file.lines) (bytes_of k size) =
        ap is_whole rule.2 ∙ whole_is k size rule.0 ∙ ap (λ (b : List ℕ). pointwise ◌==◌ b (bytes_of k size)) (sym file.whole) in
        record {
          reply = GivenReply file.lines;
          steps = steps_of rack touch old new (Cat (file_path k)) (GivenReply file.lines) (rule.3 file.lines file.are file.whole);
          outcome_is = ap (λ (b : Bool). if b then Given else Other) whole;
        }
    read_by NotFound s l some rule = read_as (RefusedReply RefusedNotFound) Other rule.1 refl
    read_by NotDirectory s l some rule = read_as (RefusedReply RefusedNotDirectory) Other rule.1 refl
    read_by (Bad bad) s l some rule = read_as (RefusedReply (RefusedBad bad)) Other rule.1 refl
    read_by AnswerUnavailable s l some rule = read_as UnavailableReply Unavailable rule.1 refl
    read_by NotRegular s l some rule = read_as (RefusedReply RefusedNotRegular) Other rule.1 refl
    read_by (Cut n) s l some rule =
        let file = in_lines l (length rule.0) rule.0 some (omega arith) in
        read_as (CutReply file.lines) Other (rule.3 file.lines file.are file.whole) refl
    read_by SinkFault s l some rule = absurd rule.1
