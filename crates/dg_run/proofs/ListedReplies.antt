-- A listing answers an event: what a sink took of its lines, to which it was lent.
use Rattle.std.proofs.Common.{◌≡◌, ◌⊎◌, ◌∙◌, ◌++◌, ℕ, List, ap, inl, inr, length, subst, sym}
use Rattle.std.specs.Fmt.{decimal}
use Rattle.std.specs.Prelude.{codes}
use Rattle.dg_io.specs.Told.{Told, Took, TookPart}
use Rattle.dg_io.specs.SinkLines.{lines_none}
use Rattle.dg_io.specs.declared.outside.Rack.{Ghosts}
use Rattle.dg_io.specs.declared.outside.Sink as sinks
use Rattle.dg_model.proofs.StepLaws.{StaysInUse}
use Rattle.dg_model.specs.declared.events.Event.{Event}
use Rattle.dg_model.specs.declared.replies.Reply.{Reply}
use Rattle.dg_run.proofs.ArraySteps.{steps_of, weaker_steps}
use Rattle.dg_run.proofs.FileParts.{part_end, part_lines, part_of_lines, told_end, told_lines}
use Rattle.dg_run.proofs.LentLines.{Leaves, lent, lent_both}
use Rattle.dg_run.specs.Steps.{Answered, AnsweredPart, BeginsLines, StepsTo, WantedFor}
use Rattle.dg_run.specs.declared.arrays.Array.{Array}
use Rattle.dg_text.specs.HexLines.{last_line}
use Rattle.dg_text.specs.Replies.{reply_line}
use Rattle.dg_volume.specs.Volumes.{any_phase}
use Rattle.dg_volume.specs.Volumes as volumes

-- A reply of lines with this text, and then one of a word and their number.
pub record Ending (A : Type 0) (text : List A → List ℕ) : Type 0 where
  pub word : List ℕ
  pub reply : List A → Reply
  pub line : (items : List A) → reply_line (reply items) ≡ (text items ++ (word ++ decimal (length items))) ++ codes "\n"

-- The event that asks for a listing, the text of its lines, and its replies, whole and cut off.
pub record Listing (A : Type 0) : Type 0 where
  pub event : Event
  pub text : List A → List ℕ
  pub in_use : (reply : Reply) → StaysInUse event reply
  pub whole : Ending A text
  pub cut : Ending A text

-- A sink was lent for its lines, as `old`, which was `out` when the array had done (`b`): what that took of them the sink took.
pub record Lent {A L K R : Type 0} (kind : Listing A) (ghosts : sinks.Ghosts K) (rack : Ghosts R) (sink : K) (sink_of : L → K) (took took_part : L → List A → L → Type 0) (old out : L) (a b : Array R) : Type 0 where
  pub is : sink_of old ≡ sink
  pub told : (items : List A) → took old items out → Told (Took (kind.text items)) (ghosts.taken sink) (ghosts.taken (sink_of out))
  pub part : (items : List A) → took_part old items out → Told (TookPart (kind.text items)) (ghosts.taken sink) (ghosts.taken (sink_of out))
  pub few : (items : List A) → took old items out → Leaves ghosts (sink_of old) (sink_of out)
  pub hot : b.hot ≡ a.hot

module _ {A L K R : Type 0} {kind : Listing A} {ghosts : sinks.Ghosts K} {rack : Ghosts R} {sink : K} {sink_of : L → K} {took took_part : L → List A → L → Type 0} {old out : L}
    {a b : Array R} (by : Lent kind ghosts rack sink sink_of took took_part old out a b) where
  abbrev Steps : Reply → Type 0
  Steps reply = volumes.StepsTo any_phase any_phase rack a.volume kind.event reply b.volume

  steps_in : (reply : Reply) → Steps reply → StepsTo rack a kind.event reply b
  steps_in reply steps = steps_of rack a b kind.event reply (kind.in_use reply) by.hot steps

  -- all lines were written, and then the one that ends them, or a part of that; the sink came back (`end`)
  module _ {k end : K} (ending : Ending A kind.text) (n : ℕ) (h : (items : List A) × (length items ≡ n) × took old items out × Steps (ending.reply items)) where
    pub ended : Told (Took (last_line ending.word n)) (ghosts.taken (sink_of out)) (ghosts.taken k) → k ≡ end → Answered rack kind.event (ghosts.taken sink) (ghosts.taken end) a b
    ended last back = subst (λ (s : K). Answered rack kind.event (ghosts.taken sink) (ghosts.taken s) a b) back (record {
      reply = ending.reply h.0;
      steps = steps_in (ending.reply h.0) h.3;
      output = subst (λ (l : List ℕ). Told (Took l) (ghosts.taken sink) (ghosts.taken k)) (sym (ending.line h.0)) (told_lines (kind.text h.0) ending.word h.0 n _ _ h.1
          (told_end (kind.text h.0) (last_line ending.word n) _ _ _ (by.told h.0 h.2) last));
    })

    pub ended_part : Told (TookPart (last_line ending.word n)) (ghosts.taken (sink_of out)) (ghosts.taken k) → k ≡ end → AnsweredPart rack kind.event (ghosts.taken sink) (ghosts.taken end) a b
    ended_part last back = subst (λ (s : K). AnsweredPart rack kind.event (ghosts.taken sink) (ghosts.taken s) a b) back (record {
      reply = ending.reply h.0;
      steps = weaker_steps rack a b kind.event (ending.reply h.0) (steps_in (ending.reply h.0) h.3);
      output = subst (λ (l : List ℕ). Told (TookPart l) (ghosts.taken sink) (ghosts.taken k)) (sym (ending.line h.0)) (part_lines (kind.text h.0) ending.word h.0 n _ _ h.1
          (part_end (kind.text h.0) (last_line ending.word n) _ _ _ (by.told h.0 h.2) last));
    })

  -- no more often than there are lines, and 255 bytes
  pub ended_lines : {k end : K} (items : List A) → took old items out → Leaves ghosts (sink_of out) k → k ≡ end → Leaves ghosts sink end
  ended_lines items taken last back = lent_both ghosts _ _ (sink_of out) _ _ by.is (by.few items taken) last back

  -- the sink failed at a line
  pub front_part : {end : K} (items : List A) → took_part old items out → Steps (kind.whole.reply items) → sink_of out ≡ end
      → AnsweredPart rack kind.event (ghosts.taken sink) (ghosts.taken end) a b
  front_part items taken steps back = subst (λ (s : K). AnsweredPart rack kind.event (ghosts.taken sink) (ghosts.taken s) a b) back (record {
    reply = kind.whole.reply items;
    steps = weaker_steps rack a b kind.event (kind.whole.reply items) (steps_in (kind.whole.reply items) steps);
    output = subst (λ (l : List ℕ). Told (TookPart l) (ghosts.taken sink) (ghosts.taken (sink_of out))) (sym (kind.whole.line items))
        (part_of_lines (kind.text items) kind.whole.word items _ _ (by.part items taken));
  })

  -- memory was wanting: it took nothing, or the lines of the first items
  abbrev HandsFirst : Type 0
  HandsFirst = (out ≡ old) ⊎ ((items : List A) × (rest : List A) × took old items out × Steps (kind.whole.reply (items ++ rest)))

  wanted_then : ((items : List A) (rest : List A) → BeginsLines kind.event (kind.whole.reply (items ++ rest)) (kind.text items)) → HandsFirst
      → WantedFor rack kind.event (ghosts.taken sink) (ghosts.taken (sink_of out)) a b
  wanted_then begins (inl same) = inl (ap (λ (l : L). ghosts.taken (sink_of l)) same ∙ ap ghosts.taken by.is)
  wanted_then begins (inr some) = inr (inr (record {
    reply = kind.whole.reply (some.0 ++ some.1);
    text = kind.text some.0;
    lines = begins some.0 some.1;
    steps = weaker_steps rack a b kind.event (kind.whole.reply (some.0 ++ some.1)) (steps_in (kind.whole.reply (some.0 ++ some.1)) some.3);
    output = by.told some.0 some.2;
  }))

  pub wanted : {end : K} → ((items : List A) (rest : List A) → BeginsLines kind.event (kind.whole.reply (items ++ rest)) (kind.text items)) → HandsFirst → sink_of out ≡ end
      → WantedFor rack kind.event (ghosts.taken sink) (ghosts.taken end) a b
  wanted begins h back = subst (λ (s : K). WantedFor rack kind.event (ghosts.taken sink) (ghosts.taken s) a b) back (wanted_then begins h)

  few_first : HandsFirst → Leaves ghosts (sink_of old) (sink_of out)
  few_first (inl same) = subst (λ (l : L). Leaves ghosts (sink_of old) (sink_of l)) (sym same) (lines_none 255 ghosts.whole ghosts.calls ghosts.taken (sink_of old))
  few_first (inr some) = by.few some.0 some.2

  pub wanted_lines : {end : K} → HandsFirst → sink_of out ≡ end → Leaves ghosts sink end
  wanted_lines h back = lent ghosts _ _ (sink_of out) _ by.is (few_first h) back
