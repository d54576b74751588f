-- What a replay prints.
use Rattle.std.proofs.Common.{◌≡◌, ◌∙◌, ℕ, List, ◌∷◌, refl, sym, ap, subst}
use Rattle.std.specs.Prelude.{Option}
use Rattle.dg_io.specs.Racks.{counts_in, member_in, told_in}
use Rattle.dg_io.specs.Sinks.{taken_in}
use Rattle.dg_model.specs.Causes.{NoneRose}
use Rattle.dg_model.specs.States.{Counts}
use Rattle.dg_model.specs.declared.events.Event.{Event}
use Rattle.dg_model.specs.declared.events.Event.TheVariants.{Array}
use Rattle.dg_model.specs.declared.replies.Reply.{Reply}
use Rattle.dg_model.specs.declared.replies.Reply.TheVariants.{Done}
use Rattle.dg_model.specs.declared.shapes.Shape.{Shape}
use Rattle.dg_run.specs.Replays.{Ran}
use Rattle.dg_text.specs.Lines.{AreInPlace, input_of}
use Rattle.dg_text.specs.Replies.{output_of}
use Rattle.dg_uses.specs.Replays.{AreNone, HasReplayed, NeverFailed, RanSmoothly}
use Rattle.dg_uses.specs.declared.replays.Replay.{Replay}

-- that an input spells its events in one way: a law of lines, which is handed in
abbrev pub OneInput : Type 0
OneInput = (events others : List Event) → AreInPlace events → AreInPlace others → input_of events ≡ input_of others → events ≡ others

-- of events behind an array of this shape these are the replies, where the run is smooth
abbrev pub AreReplies : Type 0 → (ℕ → Type 0) → Shape → List Event → List Reply → Type 0
AreReplies steady tells shape events promised = (replies : List Reply) → RanSmoothly steady tells (Array shape ∷ events) replies → replies ≡ Done ∷ promised

pub none_from : (before now : Counts) → AreNone before → NoneRose (λ q. 0) now.faults → NoneRose before.faults now.faults
none_from before now fresh none = subst (λ (f : ℕ → ℕ). NoneRose f now.faults) (λ i q. sym (fresh.faults q) i) none

-- so it is of a run of these events over a new rack, none of whose calls failed
pub replied : (shape : Shape) (events : List Event) (promised : List Reply) (end : Replay) (before : Counts) (images : ℕ → Option (List ℕ)) (done : List Event)
    (replies : List Reply) → done ≡ Array shape ∷ events → Ran before (counts_in end.rack) images (member_in end.rack) (Unit {0}) (told_in end.rack) done replies → AreNone before
    → AreReplies (Unit {0}) (told_in end.rack) shape events promised → NeverFailed end → replies ≡ Done ∷ promised
replied shape events promised end before images done replies same ran fresh are never = are replies (record {
  before = before;
  now = counts_in end.rack;
  images = images;
  bytes = member_in end.rack;
  ran = subst (λ (es : List Event). Ran before (counts_in end.rack) images (member_in end.rack) (Unit {0}) (told_in end.rack) es replies) same ran;
  told = λ q below. refl;
  none = none_from before (counts_in end.rack) fresh never;
})

pub prints : OneInput → (shape : Shape) (events : List Event) (promised : List Reply) → AreInPlace (Array shape ∷ events)
    → (text : List ℕ) → text ≡ input_of (Array shape ∷ events) → (end : Replay) → AreReplies (Unit {0}) (told_in end.rack) shape events promised → HasReplayed text end → NeverFailed end
    → taken_in end.sink ≡ output_of (Done ∷ promised)
prints one shape events promised places text spelled end are did never =
    let replayed = did.replayed in
    let same : replayed.events ≡ Array shape ∷ events =
    one replayed.events (Array shape ∷ events) replayed.ran.in_place places (sym replayed.input.0 ∙ spelled) in
    replayed.output
    ∙ ap output_of (replied shape events promised end did.before did.images replayed.events replayed.replies same replayed.ran did.fresh are never)
