-- What was done on an opened volume, told by the members and the counts of its rack.
use Rattle.std.proofs.Common.{◌≡◌, ◌≢◌, ◌⊎◌, ◌≤◌, ℕ, List, ap, arith, refl, sym, ◌∙◌, inl, inr}
use Rattle.std.specs.Prelude.{Bool, Option}
use Rattle.dg_io.specs.Makes.{Makes}
use Rattle.dg_io.specs.MakesLaws.{makes_both, makes_such}
use Rattle.dg_io.specs.RackCalls.{RackCall}
use Rattle.dg_io.specs.RackCalls.RackCall.{blanks, calls, extends, looks}
use Rattle.dg_io.specs.declared.outside.Rack.{Ghosts}
use Rattle.dg_model.proofs.KnownLaws.{step_less}
use Rattle.dg_model.specs.Openings.{Reduced}
use Rattle.dg_model.specs.States.{State}
use Rattle.dg_model.specs.Tables.{Table}
use Rattle.dg_model.specs.declared.events.Event.{Event}
use Rattle.dg_model.specs.declared.replies.Reply.{Reply}
use Rattle.dg_open.specs.Reopenings.{IsCallOfOpening}
use Rattle.dg_saved.specs.Calls.{Facts}
use Rattle.dg_saved.specs.Ends.{EventOnce, Printed, PrintedPart, StatusOnce, WereSuch}
use Rattle.dg_saved.specs.OpeningLaws.{at_first, facts, is_opened, known_now, live_is, origin, others, source}
use Rattle.dg_saved.specs.Saved.{HasRun, HasShown, HasSource, OthersKept, RunsFrom}
use Rattle.dg_saved.specs.Serves.{EndsServed, Steps}
use Rattle.dg_saved.specs.Texts.{array_text, status_text}
use Rattle.dg_saved.specs.declared.ends.SavedEnd.{SavedEnd}
use Rattle.dg_saved.specs.declared.ends.SavedEnd.TheVariants.{Done, NoState, Refused, Unclean, WriteFault}
use Rattle.dg_store.specs.Leaves.{IsCallBelow}
use Rattle.dg_volume.specs.Besides.{AnswersBytes}
use Rattle.dg_volume.specs.HeldLaws.{holds_all, own_still}
use Rattle.dg_volume.specs.Opens.{HasOpenedBeside, StoodOnce}
use Rattle.dg_volume.specs.Volumes.{Leaves, any_phase, live_of, members_of, phase_of, rack_of, shape_of, table_of}
use Rattle.dg_volume.specs.declared.opens.OpenAnswer.TheVariants.{Opened}
use Rattle.dg_volume.specs.declared.phases.AnyPhase.{AnyPhase}
use Rattle.dg_volume.specs.declared.volumes.Volume.{Volume}

-- ---- the calls that were made

low_call : (b : ℕ) → b ≤ 16 → (call : RackCall) → IsCallBelow b call → IsCallOfOpening call
low_call b most (looks q) below = absurd below
low_call b most (blanks q) below = absurd below
low_call b most (calls q) below = omega (arith, below, most)
low_call b most (extends q) below = absurd below

-- those of an opening, and then calls on the members of the array that was opened
pub calls_made : {R : Type 0} (rack : Ghosts R) (beside : Option Reduced) (before : R) (volume new : Volume AnyPhase R) (hot : List ℕ)
    → HasOpenedBeside rack beside before volume hot → Leaves any_phase any_phase rack volume new → Makes rack IsCallOfOpening before (rack_of new)
calls_made rack beside before volume new hot opened leaves =
    let b = (shape_of volume).b in
    makes_both rack IsCallOfOpening before (rack_of volume) (rack_of new) opened.made
    (makes_such rack (IsCallBelow b) IsCallOfOpening (low_call b opened.well.array.table.shape.most_boundaries) (rack_of volume) (rack_of new) leaves.own.made)

-- ---- one event

module _ {R : Type 0} (rack : Ghosts R) (room : R → Option ℕ) (extra : List ℕ) (before : R) (volume new : Volume AnyPhase R) (hot : List ℕ) (taken given : Option (List ℕ))
    (answers : AnswersBytes rack room before extra (Opened volume hot)) (leaves : Leaves any_phase any_phase rack volume new) where
  -- what was met outside, what the rack tells in the end, and what it was opened from
  abbrev was : Facts
  was = facts rack room extra before volume new hot taken given answers leaves

  abbrev told : ℕ → Type 0
  told = rack.tells (rack_of new)

  abbrev from : HasSource was (rack.counts (rack_of volume))
  from = source rack room extra before volume new hot taken given answers leaves

  abbrev kept : OthersKept was answers.answers.opened.saved.table
  kept = others rack room extra before volume new hot taken given answers leaves

  -- with these blocks
  runs_from : (event : Event) (reply : Reply) → Steps rack volume event reply new → (V : List (List ℕ)) → RunsFrom told was (rack.counts (rack_of volume)) from event reply V
  runs_from event reply steps V =
      let at = at_first rack room extra before volume new hot taken given answers leaves V in
      let one = steps (origin rack room extra before volume new hot taken given answers leaves V) at.state at.stands in
      let all = known_now rack room extra before volume new hot taken given answers leaves V in
      record {
        state = at.state;
        is = is_opened rack room extra before volume new hot taken given answers leaves V;
        next = one.0;
        step = step_less all at.state event reply one.0 one.2;
        counts = ap (λ (s : State). s.counts) one.1.is;
        holds = λ known. holds_all rack new any_phase one.0 leaves.well one.1 (all known);
      }

  abbrev has_run : (event : Event) (reply : Reply) → Steps rack volume event reply new → HasRun told was event reply
  has_run event reply steps = record { opened = rack.counts (rack_of volume); source = from; rise = leaves.rise; others = kept; runs = runs_from event reply steps }

  -- the end of a command that is one event
  pub ends_event : (event : Event) (text : Reply → List ℕ) (gives : Reply → Bool) (end : SavedEnd) → EndsServed rack volume event text gives taken given new end
      → EventOnce rack before (rack_of new) was event text gives end
  ends_event event text gives Done h = (record { reply = h.reply; ran = has_run event h.reply h.steps; kind = h.kind_is; output = h.output }, answers.answers.opened.stood)
  ends_event event text gives Refused h = (record { reply = h.reply; ran = has_run event h.reply h.steps; kind = h.kind_is; output = h.output }, answers.answers.opened.stood)
  ends_event event text gives NoState h = absurd h
  ends_event event text gives Unclean h = absurd h
  ends_event event text gives WriteFault h = (inr (record { reply = h.reply; ran = has_run event h.reply h.steps; output = h.output }), answers.answers.opened.stood)

-- ---- the state of an array that was opened

module _ {R : Type 0} (rack : Ghosts R) (room : R → Option ℕ) (extra : List ℕ) (before : R) (volume : Volume AnyPhase R) (hot : List ℕ) (taken given : Option (List ℕ))
    (answers : AnswersBytes rack room before extra (Opened volume hot)) where
  pub stays : Leaves any_phase any_phase rack volume volume
  stays = record {
    well = answers.answers.opened.well;
    shape = refl;
    boundaries = refl;
    live = refl;
    line = refl;
    rise = record { faults = λ q. omega arith; calls = omega arith; writes = omega arith };
    tells = λ q told. told;
    told_before = λ q told. told;
    own = own_still rack volume;
    same_rack = refl;
  }

  -- the text of its parts tells of its state
  abbrev pub has_shown : (text : List ℕ) → text ≡ array_text (table_of volume) (live_of volume) (members_of volume) (phase_of any_phase volume)
      → HasShown (rack.tells (rack_of volume)) (facts rack room extra before volume volume hot taken given answers stays) text
  has_shown text is = record {
    source = source rack room extra before volume volume hot taken given answers stays;
    phase = phase_of any_phase volume;
    others = others rack room extra before volume volume hot taken given answers stays;
    text_is = is
        ∙ ap (λ (t : Table). array_text t (live_of volume) (members_of volume) (phase_of any_phase volume)) answers.answers.opened.table
        ∙ ap (λ (live : List ℕ). array_text answers.answers.opened.saved.table live (members_of volume) (phase_of any_phase volume))
        (live_is rack room extra before volume volume hot taken given answers stays);
    shows = λ V.
        let at = at_first rack room extra before volume volume hot taken given answers stays V in
        record {
          state = at.state;
          is = is_opened rack room extra before volume volume hot taken given answers stays V;
          text_is = is ∙ sym (ap status_text at.stands.is);
          holds = λ known. holds_all rack volume any_phase at.state answers.answers.opened.well at.stands (known_now rack room extra before volume volume hot taken given answers stays V known);
        };
  }

-- the end of a command that tells of the state
pub shown_ends : {R : Type 0} (rack : Ghosts R) (before now : R) (facts : Facts) (end : SavedEnd) (text : List ℕ) → (end ≡ Done) ⊎ (end ≡ WriteFault) → (end ≢ WriteFault → Printed facts text)
    → (end ≡ WriteFault → PrintedPart facts text) → (shown : HasShown (rack.tells now) facts text) → WereSuch (StoodOnce rack before) shown.source → StatusOnce rack before now facts end
shown_ends rack before now facts Done text is told part shown stood = ((text, shown, told (λ e. cc e)), stood)
shown_ends rack before now facts Refused text is told part shown stood = elim is [ inl e ↦ absurd (cc e) | inr e ↦ absurd (cc e) ]
shown_ends rack before now facts NoState text is told part shown stood = elim is [ inl e ↦ absurd (cc e) | inr e ↦ absurd (cc e) ]
shown_ends rack before now facts Unclean text is told part shown stood = elim is [ inl e ↦ absurd (cc e) | inr e ↦ absurd (cc e) ]
shown_ends rack before now facts WriteFault text is told part shown stood = (inr (text, shown, part refl), stood)
