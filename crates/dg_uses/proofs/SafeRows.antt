-- What a replay leaves that printed that a write of an array with a checkpoint was saved.
use Rattle.std.proofs.Common.{◌≡◌, ◌∙◌, ◌<◌, ℕ, List, [], ◌∷◌, ap, arith, get_or, length, refl, subst, sym}
use Rattle.std.specs.Prelude.{Option, codes, replicate, slice_set}
use Rattle.std.specs.Fmt.{digits}
use Rattle.std.proofs.lemmas.List.{get_or-set_same, length-replicate}
use Rattle.std.proofs.lemmas.List.Elements.{All-nil}
use Rattle.hex.specs.Hex.{encode_with}
use Rattle.dg_io.specs.Racks.{counts_in, member_in, told_in}
use Rattle.dg_io.specs.Sinks.{taken_in}
use Rattle.dg_kept.specs.Opened.{AreTold}
use Rattle.dg_model.specs.Blocks.{block_in, padded, zeros}
use Rattle.dg_model.specs.Moments.{History, HistoryOf, Makes, Moment}
use Rattle.dg_model.specs.Moments.Kind.{double}
use Rattle.dg_model.specs.Seals.{next_sequence}
use Rattle.dg_model.specs.States.{Counts, State}
use Rattle.dg_model.specs.Steps.{Step}
use Rattle.dg_model.specs.declared.events.Event.{Event}
use Rattle.dg_model.specs.declared.events.Event.TheVariants.{Safe, Save as SaveEvent, Write}
use Rattle.dg_model.specs.declared.replies.Reply.{Reply}
use Rattle.dg_model.specs.declared.replies.Reply.TheVariants.{Degraded, Done, Lost, NotSaved, Range, Saved}
use Rattle.dg_model.specs.declared.shapes.Shape.{Shape}
use Rattle.dg_run.specs.Keeping.{Keeping, KeepsAlong, KeepsFrom}
use Rattle.dg_run.specs.Keeping.Keeping.{nothing}
use Rattle.dg_run.specs.Replays.{Ran, TellsBoundaries}
use Rattle.dg_text.specs.Lines.{AreInPlace, input_of}
use Rattle.dg_text.specs.Replies.{output_of}
use Rattle.dg_uses.proofs.Checkpoints.{reopens_saved, saved_told}
use Rattle.dg_uses.proofs.Lines.{OneInput}
use Rattle.dg_uses.proofs.NextNumbers.{step_number}
use Rattle.dg_uses.proofs.Rows.{shape_here}
use Rattle.dg_uses.proofs.SavedReads.{hi, saved_events, saved_placed}
use Rattle.dg_uses.specs.Checkpoints.{LeavesKept, ReopensBlock, ReopensSaved}
use Rattle.dg_uses.specs.Replays.{HasReplayed}
use Rattle.dg_uses.specs.declared.replays.Replay.{Replay}

abbrev printed : List ℕ
printed = codes "ok\nok\nsaved 1\n"

safe_text : codes "safe 1024 64 4 32 2\nwrite 3 6869\nsave\n" ≡ input_of (Safe shape_here ∷ saved_events)
unfolding digits encode_with
safe_text = refl

printed_is : printed ≡ output_of (Done ∷ Done ∷ Saved 1 ∷ [])
unfolding digits
printed_is = refl

safe_placed : AreInPlace (Safe shape_here ∷ saved_events)
safe_placed = saved_placed

byte_at : (k : ℕ) (x y : List ℕ) → x ≡ y → get_or x k 0 ≡ get_or y k 0
byte_at k x y e = ap (λ (l : List ℕ). get_or l k 0) e

-- ---- the steps

-- a write that is answered by `ok` leaves the bytes that were written
wrote : (Known : Type 0) (blank mid : State) (reply : Reply) (rest : List Reply) → blank.blocks ≡ replicate 64 (zeros 1024) → blank.table.shape ≡ shape_here
    → Step Known blank (Write 3 hi) reply mid → printed ≡ output_of (Done ∷ reply ∷ rest) → (reply ≡ Done) × (block_in mid.blocks 3 ≡ padded 1024 hi)
wrote Known blank mid Done rest blocks shape h is =
    let long : 3 < length (replicate 64 (zeros 1024)) = omega (arith, length-replicate 64 (zeros 1024)) in (
      refl,
      ap (λ (s : State). block_in s.blocks 3) h.2.rest
          ∙ ap (λ (v : List (List ℕ)). block_in (slice_set v 3 (padded blank.table.shape.l hi)) 3) blocks
          ∙ get_or-set_same (replicate 64 (zeros 1024)) 3 (padded blank.table.shape.l hi) [] long
          ∙ ap (λ (s : Shape). padded s.l hi) shape,
    )
wrote Known blank mid Degraded rest blocks shape h is = absurd (omega (arith, byte_at 3 _ _ is))
wrote Known blank mid Range rest blocks shape h is = absurd (omega (arith, byte_at 3 _ _ is))
wrote Known blank mid reply rest blocks shape h is = absurd h

-- and the first save is answered by number 1
saves : (Known : Type 0) (old new : State) (reply : Reply) → Step Known old SaveEvent reply new → next_sequence old.label ≡ 1
    → printed ≡ output_of (Done ∷ Done ∷ reply ∷ []) → reply ≡ Saved 1
saves Known old new (Saved n) h first is = ap Saved (h.next ∙ first)
saves Known old new (Lost s) h first is = absurd (omega (arith, byte_at 6 _ _ is))
saves Known old new NotSaved h first is = absurd (omega (arith, byte_at 6 _ _ is))
saves Known old new reply h first is = absurd h

-- ---- the run

-- these lines have these replies, where that was printed
replies_are : (Known : Type 0) (before : Counts) (replies : List Reply) (final : Moment) (last : Keeping) → printed ≡ output_of replies
    → KeepsFrom Known before (Safe shape_here ∷ saved_events) replies final last → replies ≡ Done ∷ Done ∷ Saved 1 ∷ []
replies_are Known before (Done ∷ r ∷ s ∷ []) final last is keeps =
    let made : Makes Known double (Safe shape_here) shape_here before keeps.0 = keeps.1 in
    let along : KeepsAlong Known double nothing keeps.0 saved_events (r ∷ s ∷ []) final last = keeps.2 in
    let then_saved : KeepsAlong Known double along.1 along.0 (SaveEvent ∷ []) (s ∷ []) final last = along.4 in
    let blank = keeps.0.state in
    let write = wrote Known blank along.0.state r (s ∷ []) (ap (λ (x : State). x.blocks) made.is_blank.is) (ap (λ (x : State). x.table.shape) made.is_blank.is) along.2.step is in
    let step = subst (λ (x : Reply). Step Known blank (Write 3 hi) x along.0.state) write.0 along.2.step in
    let first = step_number Known blank along.0.state (Write 3 hi) Done tt step ∙ ap (λ (x : State). next_sequence x.label) made.is_blank.is in
    let second = saves Known along.0.state then_saved.0.state s then_saved.2.step first (subst (λ (x : Reply). printed ≡ output_of (Done ∷ x ∷ s ∷ [])) write.0 is) in
    ap (λ (x : Reply). Done ∷ x ∷ s ∷ []) write.0 ∙ ap (λ (x : Reply). Done ∷ Done ∷ x ∷ []) second
replies_are Known before (Done ∷ r ∷ s ∷ x ∷ replies) final last is keeps = absurd keeps.2.4.4
replies_are Known before (Done ∷ r ∷ []) final last is keeps = absurd keeps.2.4
replies_are Known before (Done ∷ []) final last is keeps = absurd keeps.2
replies_are Known before replies final last is keeps = absurd keeps

-- behind them the block has the bytes that were written
block_saved : (before : Counts) (bytes : ℕ → Option (List ℕ)) (final : Moment)
    (h : ReopensSaved AreTold before shape_here (Write 3 hi ∷ []) (Done ∷ []) 1 [] [] final bytes) → block_in h.mid.state.blocks 3 ≡ padded 1024 hi
block_saved before bytes final h =
    let led : HistoryOf AreTold before (Safe shape_here ∷ Write 3 hi ∷ []) (Done ∷ Done ∷ []) h.old = h.led in
    let blank = led.1.is_blank.is in
    let along : History AreTold double led.0 (Write 3 hi ∷ []) (Done ∷ []) h.old = led.2 in
    let write = wrote AreTold led.0.state along.0.state Done (Saved 1 ∷ []) (ap (λ (s : State). s.blocks) blank) (ap (λ (s : State). s.table.shape) blank) along.1.step printed_is in
    ap (λ (s : State). block_in s.blocks 3) h.saves.step.rest ∙ ap (λ (m : Moment). block_in m.state.blocks 3) along.2 ∙ write.1

pub keeps_written : OneInput → (end : Replay) → HasReplayed (codes "safe 1024 64 4 32 2\nwrite 3 6869\nsave\n") end → taken_in end.sink ≡ codes "ok\nok\nsaved 1\n"
    → ReopensBlock shape_here 3 hi (counts_in end.rack) (member_in end.rack)
keeps_written one end did is =
    let replayed = did.replayed in
    let same : replayed.events ≡ Safe shape_here ∷ saved_events =
    one replayed.events (Safe shape_here ∷ saved_events) replayed.ran.in_place safe_placed (sym replayed.input.0 ∙ safe_text) in
    let ran = subst (λ (es : List Event). Ran did.before (counts_in end.rack) did.images (member_in end.rack) (Unit {0}) (told_in end.rack) es replayed.replies) same replayed.ran in
    let Known = TellsBoundaries (told_in end.rack) ran.final.state in
    let known : Known = λ q low. refl in
    let kept = ran.kept (λ none. none) tt known in
    let replies = replies_are Known did.before replayed.replies ran.final kept.0 (sym is ∙ replayed.output) kept.1 in
    let keeps = subst (λ (rs : List Reply). KeepsFrom Known did.before (Safe shape_here ∷ saved_events) rs ran.final kept.0) replies kept.1 in
    let h = saved_told known did.before (member_in end.rack) shape_here (Write 3 hi ∷ []) [] (Done ∷ []) [] 1 ran.final
    (reopens_saved Known did.before (member_in end.rack) shape_here (Write 3 hi ∷ []) [] (Done ∷ []) [] 1 ran.final refl (All-nil LeavesKept) (kept.0, keeps, kept.2)) in
    record {
      before = did.before;
      fresh = did.fresh;
      final = ran.final;
      counts = ran.counts;
      saved_then = h;
      block = block_saved did.before (member_in end.rack) ran.final h;
    }
