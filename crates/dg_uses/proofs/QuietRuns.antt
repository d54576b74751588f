-- Histories whose bytes are told; and the run of a history's states over members of which nothing is counted behind the array's own.
use Rattle.std.proofs.Common.{◌≡◌, ◌≤◌, ◌<◌, ◌/◌, ◌∙◌, ◌++◌, inl, inr, ℕ, List, [], ◌∷◌, length, refl, sym, ap, subst, arith}
use Rattle.std.specs.Prelude.{if◌then◌else◌, false, nat_lt, Some}
use Rattle.std.proofs.lemmas.Bool.{cases_lt}
use Rattle.std.proofs.lemmas.List.FromFn.{length-range_with_len}
use Rattle.dg_kept.specs.Opened.{AreTold}
use Rattle.dg_model.proofs.KnownLaws.{run_less, step_less}
use Rattle.dg_model.proofs.MomentLaws.{history_runs, tied_less}
use Rattle.dg_model.proofs.StepLaws.{StayInUse}
use Rattle.dg_model.specs.Causes.{NoneRose, Rose}
use Rattle.dg_model.specs.Lives.{all_live, member_at}
use Rattle.dg_model.specs.Moments.{AreCountsOf, Happens, History, HistoryOf, IsAllowed, Kind, Makes, Moment}
use Rattle.dg_model.specs.Moments.Kind.{plain}
use Rattle.dg_model.specs.Runs.{Run, Trace}
use Rattle.dg_model.specs.States.{Counts, IsBlank, State}
use Rattle.dg_model.specs.declared.events.Event.{Event}
use Rattle.dg_model.specs.declared.events.Event.TheVariants.{Array, Safe, Parity, Write, Read, Fail, Replace, Rebuild, Settle, Tend, Diffuse, Who, Pending, Cat, Ls, Tree, Home, Save, Regroup, LostFiles, Audit, DropDisk, MendDisk}
use Rattle.dg_model.specs.declared.replies.Reply.{Reply}
use Rattle.dg_model.specs.declared.replies.Reply.TheVariants.{Done, NotParity, Saved}
use Rattle.dg_model.specs.declared.shapes.Shape.{Shape}
use Rattle.dg_run.specs.Replays.{KeepsNone}
use Rattle.dg_text.specs.Lines.{AreInPlace, IsInPlace}
use Rattle.dg_uses.proofs.NextNumbers.{IsServed}
use Rattle.dg_uses.proofs.Quiet.{at_high, at_low, quiet, quiet_counts, quiet_rises, quiet_rose, quiet_step}
use Rattle.dg_uses.proofs.Seated.{IsSeated, blank_seated, run_sits, sits_next, step_seated}

-- ---- bytes that are told

happens_less : {K J : Type 0} → (J → K) → (kind : Kind) (old : Moment) (event : Event) (reply : Reply) (new : Moment) → Happens K kind old event reply new
    → Happens J kind old event reply new
happens_less w kind old event reply new h = record {
  step = step_less w old.state event reply new.state h.step;
  allowed = h.allowed;
  rise = h.rise;
  tied = tied_less w kind event old new h.tied;
  took = h.took;
}

pub history_less : {K J : Type 0} → (J → K) → (kind : Kind) (old : Moment) (events : List Event) (replies : List Reply) (new : Moment)
    → History K kind old events replies new → History J kind old events replies new
history_less w kind old [] [] new h = h
history_less w kind old [] (reply ∷ replies) new h = absurd h
history_less w kind old (event ∷ events) [] new h = absurd h
history_less w kind old (event ∷ events) (reply ∷ replies) new h =
    (h.0, happens_less w kind old event reply h.0 h.1, history_less w kind h.0 events replies new h.2)

makes_less : {K J : Type 0} → (J → K) → (kind : Kind) (event : Event) (shape : Shape) (before : Counts) (blank : Moment) → Makes K kind event shape before blank
    → Makes J kind event shape before blank
makes_less w kind event shape before blank h = record {
  first = h.first;
  is_blank = h.is_blank;
  begun = h.begun;
  rise = h.rise;
  tied = tied_less w kind event (record { state = record blank.state { counts = h.first }; beneath = record { counts = before; out = λ d. false } }) blank h.tied;
}

pub history_told : {K : Type 0} → K → (before : Counts) (events : List Event) (replies : List Reply) (new : Moment) → HistoryOf K before events replies new
    → HistoryOf AreTold before events replies new
history_told known before [] [] new h = h
history_told known before (Array shape ∷ events) (Done ∷ replies) new h =
    (h.0, makes_less (λ _. known) _ (Array shape) shape before h.0 h.1, history_less (λ _. known) _ h.0 events replies new h.2)
history_told known before (Safe shape ∷ events) (Done ∷ replies) new h =
    (h.0, makes_less (λ _. known) _ (Safe shape) shape before h.0 h.1, history_less (λ _. known) _ h.0 events replies new h.2)
history_told known before (Parity shape n ∷ events) (Done ∷ replies) new h =
    (h.0, makes_less (λ _. known) _ (Parity shape n) shape before h.0 h.1, history_less (λ _. known) _ h.0 events replies new h.2)
history_told known before events replies new h = absurd h

-- ---- counts

-- the counts of the members in use are those of the rack at the end, too
pub history_tied : (Known : Type 0) (old : Moment) (events : List Event) (replies : List Reply) (new : Moment)
    → AreCountsOf old.state.live old.beneath.counts old.state.counts → History Known plain old events replies new
    → AreCountsOf new.state.live new.beneath.counts new.state.counts
history_tied Known old [] [] new was h = subst (λ (m : Moment). AreCountsOf m.state.live m.beneath.counts m.state.counts) (sym h) was
history_tied Known old [] (reply ∷ replies) new was h = absurd h
history_tied Known old (event ∷ events) [] new was h = absurd h
history_tied Known old (event ∷ events) (reply ∷ replies) new was h = history_tied Known h.0 events replies new h.1.tied h.2

none_at_all : Rose 0 0 → ⊥
none_at_all rose = omega (arith, rose)

-- no count of the members of an array rose, where none of its rack's did
pub quiet_none : (b : ℕ) (live : List ℕ) (before after first last : Counts) → length live ≡ b → AreCountsOf live before first → AreCountsOf live after last
    → NoneRose before.faults after.faults → NoneRose (quiet_counts b first).faults (quiet_counts b last).faults
quiet_none b live before after first last size begun tied none q rose = elim (cases_lt (q / 2) b) [
  | inl low ↦
      let here : q / 2 < length live = omega (arith, low, size) in
      let one : (quiet_counts b first).faults q ≡ before.faults (member_at live q) = at_low b first q low ∙ begun.faults q here in
      let other : (quiet_counts b last).faults q ≡ after.faults (member_at live q) = at_low b last q low ∙ tied.faults q here in
      none (member_at live q) (subst (λ (x : ℕ). Rose x (after.faults (member_at live q))) one (subst (λ (y : ℕ). Rose ((quiet_counts b first).faults q) y) other rose))
  | inr past ↦
      none_at_all (subst (λ (x : ℕ). Rose x 0) (at_high b first q past) (subst (λ (y : ℕ). Rose ((quiet_counts b first).faults q) y) (at_high b last q past) rose))
]

-- ---- runs

pub quiet_run : (Known : Type 0) (b : ℕ) (old : State) (events : List Event) (replies : List Reply) (new : State) → IsSeated old → old.table.shape.b ≡ b
    → StayInUse events replies → Run Known old events replies new → Run Known (quiet b old) events replies (quiet b new)
quiet_run Known b old [] [] new was size stay run = ap (λ (s : State). quiet b s) run
quiet_run Known b old [] (reply ∷ replies) new was size stay run = absurd run
quiet_run Known b old (event ∷ events) [] new was size stay run = absurd run
quiet_run Known b old (event ∷ events) (reply ∷ replies) new was size stay run =
    let one = sits_next Known old event reply run.0 was stay.0 run.1 in
    let same : run.0.table.shape.b ≡ b = one.seated.size ∙ ap (λ (l : List ℕ). length l) one.live ∙ sym was.size ∙ size in
    (quiet b run.0, quiet_step Known b old run.0 was size event reply stay.0 run.1, quiet_run Known b run.0 events replies new one.seated same stay.1 run.2)

pub quiet_blank : (shape : Shape) (first : Counts) (blank : State) → IsBlank shape first blank → IsBlank shape (quiet_counts shape.b first) (quiet shape.b blank)
quiet_blank shape first blank h = record {
  is = ap (λ (s : State). quiet shape.b s) h.is;
  others = h.others;
  members = λ q low. elim (h.members q low) [
    | inl good ↦ inl good
    | inr out ↦ inr (out.0, quiet_rose shape.b first blank.counts q low out.1)
  ];
  counts = quiet_rises shape.b first blank.counts h.counts;
  fell = λ q low less. h.fell q low (omega (arith, less, at_low shape.b first q low, at_low shape.b blank.counts q low));
  beyond = λ q past. ap (λ (x : ℕ). if nat_lt (q / 2) shape.b then x else 0) (h.beyond q past);
  few = omega arith;
}

-- ---- histories

-- A history of an array that kept all its boundaries in use: its states, over members of which nothing is counted behind its own; no count of these
-- rose, where none of the rack's did.
pub record IsQuiet (Known : Type 0) (before : Counts) (shape : Shape) (events : List Event) (replies : List Reply) (final : Moment) : Type 0 where
  pub first : Counts
  pub trace : Trace Known (quiet_counts shape.b first) (Array shape ∷ events) replies (quiet shape.b final.state)
  pub none : NoneRose before.faults final.beneath.counts.faults → NoneRose (quiet_counts shape.b first).faults (quiet_counts shape.b final.state.counts).faults
  pub seated : IsSeated final.state
  pub whole : length final.state.live ≡ final.state.boundaries

-- no reply tells of boundaries that were taken out of use
abbrev pub Stay : List Event → List Reply → Type 0
Stay events [] = Unit {0}
Stay events (reply ∷ replies) = StayInUse events replies

pub stay_for : (events : List Event) (replies : List Reply) → ((r : List Reply) → StayInUse events r) → Stay events replies
stay_for events [] h = tt
stay_for events (reply ∷ replies) h = h replies

pub quiet_history : (Known : Type 0) (before : Counts) (shape : Shape) (events : List Event) (replies : List Reply) (final : Moment) → shape.b ≤ 16 → Stay events replies
    → HistoryOf Known before (Array shape ∷ events) replies final → IsQuiet Known before shape events replies final
quiet_history Known before shape events [] final most stay h = absurd h
quiet_history Known before shape events (Done ∷ replies) final most stay h =
    let blank : State = h.0.state in
    let made : Makes Known plain (Array shape) shape before h.0 = h.1 in
    let run = history_runs Known plain h.0 events replies final h.2 in
    let seat = blank_seated shape made.first blank most made.is_blank in
    let size : blank.table.shape.b ≡ shape.b = ap (λ (s : State). s.table.shape.b) made.is_blank.is in
    let sits = run_sits Known blank events replies final.state seat stay run in
    let live : final.state.live ≡ all_live shape.b = sits.live ∙ ap (λ (s : State). s.live) made.is_blank.is in
    let boundaries : final.state.boundaries ≡ shape.b = sits.boundaries ∙ ap (λ (s : State). s.boundaries) made.is_blank.is in
    let long : length (all_live shape.b) ≡ shape.b = length-range_with_len 0 shape.b in
    let tied = history_tied Known h.0 events replies final made.tied h.2 in
    record {
      first = made.first;
      trace = (quiet shape.b blank, quiet_blank shape made.first blank made.is_blank, quiet_run Known shape.b blank events replies final.state seat size stay run);
      none = λ none. quiet_none shape.b (all_live shape.b) before final.beneath.counts made.first final.state.counts long (made.begun refl)
          (subst (λ (l : List ℕ). AreCountsOf l final.beneath.counts final.state.counts) live tied) none;
      seated = sits.seated;
      whole = ap (λ (l : List ℕ). length l) live ∙ long ∙ sym boundaries;
    }
quiet_history Known before shape events (reply ∷ replies) final most stay h = absurd h

-- the run of a history's states, whatever the array stands on
pub told_run : {K : Type 0} → K → (kind : Kind) (old : Moment) (events : List Event) (replies : List Reply) (new : Moment) → History K kind old events replies new
    → Run AreTold old.state events replies new.state
told_run {K} known kind old events replies new h = run_less (λ _. known) old.state events replies new.state (history_runs K kind old events replies new h)

-- the trace of a history's states, from the counts that its members had
pub told_trace : {K : Type 0} → K → (before : Counts) (shape : Shape) (events : List Event) (replies : List Reply) (final : Moment)
    → (h : HistoryOf K before (Array shape ∷ events) (Done ∷ replies) final) → Trace AreTold h.1.first (Array shape ∷ events) (Done ∷ replies) final.state
told_trace known before shape events replies final h = (h.0.state, h.1.is_blank, told_run known plain h.0 events replies final h.2)

-- ---- events on single disks

drop_reply : (old : Moment) (s j : ℕ) (reply : Reply) (new : Moment) → IsAllowed plain old (DropDisk s j) reply new → reply ≡ NotParity
drop_reply old s j NotParity new h = refl
drop_reply old s j reply new h = absurd h

mend_reply : (old : Moment) (s j : ℕ) (reply : Reply) (new : Moment) → IsAllowed plain old (MendDisk s j) reply new → reply ≡ NotParity
mend_reply old s j NotParity new h = refl
mend_reply old s j reply new h = absurd h

pub happens_served : (Known : Type 0) (shape : Shape) (old : Moment) (event : Event) (reply : Reply) (new : Moment) → IsInPlace (Some shape) event → Happens Known plain old event reply new → IsServed event reply
happens_served Known shape old (Array s) reply new place h = absurd place
happens_served Known shape old (Write b bytes) reply new place h = tt
happens_served Known shape old (Read b) reply new place h = tt
happens_served Known shape old (Fail s j) reply new place h = tt
happens_served Known shape old (Replace s j) reply new place h = tt
happens_served Known shape old (Rebuild s n) reply new place h = tt
happens_served Known shape old Settle reply new place h = tt
happens_served Known shape old (Tend n) reply new place h = tt
happens_served Known shape old Diffuse reply new place h = tt
happens_served Known shape old (Who b) reply new place h = tt
happens_served Known shape old Pending reply new place h = tt
happens_served Known shape old (Cat path) reply new place h = tt
happens_served Known shape old (Ls path) reply new place h = tt
happens_served Known shape old Tree reply new place h = tt
happens_served Known shape old (Home path) reply new place h = tt
happens_served Known shape old Save reply new place h = tt
happens_served Known shape old Regroup reply new place h = tt
happens_served Known shape old LostFiles reply new place h = tt
happens_served Known shape old Audit reply new place h = tt
happens_served Known shape old (DropDisk s j) reply new place h = drop_reply old s j reply new h.allowed
happens_served Known shape old (MendDisk s j) reply new place h = mend_reply old s j reply new h.allowed
happens_served Known shape old event reply new place h = absurd place

-- ---- a history that ends with a save

-- an array that was saved has all its boundaries in use
saved_whole : (Known : Type 0) (old : Moment) (events : List Event) (replies : List Reply) (number : ℕ) (new : Moment) → IsSeated old.state
    → History Known plain old (events ++ Save ∷ []) (replies ++ Saved number ∷ []) new → IsSeated new.state × (length new.state.live ≡ new.state.boundaries)
saved_whole Known old [] [] number new was h =
    let sits = sits_next Known old.state Save (Saved number) h.0.state was tt h.1.step in
    let all : length old.state.live ≡ old.state.boundaries = not_fewer (length old.state.live) old.state.boundaries was.few h.1.allowed in
    let here : length h.0.state.live ≡ h.0.state.boundaries = ap (λ (l : List ℕ). length l) sits.live ∙ all ∙ sym sits.boundaries in
    subst (λ (m : Moment). IsSeated m.state × (length m.state.live ≡ m.state.boundaries)) (sym h.2) (sits.seated, here)
  where
    not_fewer : (x y : ℕ) → x ≤ y → (x < y → ⊥) → x ≡ y
    not_fewer x y few none = elim (cases_lt x y) [ inl less ↦ absurd (none less) | inr more ↦ omega (arith, few, more) ]
saved_whole Known old [] (r ∷ []) number new was h = absurd h.2
saved_whole Known old [] (r ∷ (x ∷ replies)) number new was h = absurd h.2
saved_whole Known old (e ∷ []) [] number new was h = absurd h.2
saved_whole Known old (e ∷ (x ∷ events)) [] number new was h = absurd h.2
saved_whole Known old (e ∷ events) (r ∷ replies) number new was h =
    saved_whole Known h.0 events replies number new (step_seated Known old.state e r h.0.state was h.1.step) h.2

pub ends_whole : (Known : Type 0) (before : Counts) (events : List Event) (replies : List Reply) (number : ℕ) (final : Moment) → KeepsNone events → AreInPlace (events ++ Save ∷ [])
    → HistoryOf Known before (events ++ Save ∷ []) (replies ++ Saved number ∷ []) final → IsSeated final.state × (length final.state.live ≡ final.state.boundaries)
ends_whole Known before [] replies number final none places h = absurd places.0
ends_whole Known before (Array shape ∷ events) [] number final none places h = absurd h
ends_whole Known before (Array shape ∷ events) (Done ∷ replies) number final none places h =
    saved_whole Known h.0 events replies number final (blank_seated shape h.1.first h.0.state places.0.most_boundaries h.1.is_blank) h.2
ends_whole Known before (Array shape ∷ events) (reply ∷ replies) number final none places h = absurd h
ends_whole Known before (Safe shape ∷ events) replies number final none places h = absurd none
ends_whole Known before (event ∷ events) replies number final none places h = absurd places.0

-- nor does it once it is saved
pub keeps_none : (events : List Event) → KeepsNone events → KeepsNone (events ++ Save ∷ [])
keeps_none [] none = tt
keeps_none (Safe shape ∷ events) none = none
keeps_none (event ∷ events) none = tt
