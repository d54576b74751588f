-- How each command on a saved array ends. What is known of blocks is known where the rack tells the members in the end (`tells`).
use Rattle.std.proofs.Common.{inl, inr}
use Rattle.std.specs.Prelude.{◌≡◌, ◌≢◌, ◌⊎◌, ℕ, Bool, true, false, List}
use Rattle.dg_io.specs.Makes.{Makes}
use Rattle.dg_io.specs.SinkLines.{LeavesLines}
use Rattle.dg_io.specs.Told.{StillTold, Told, Took, TookPart}
use Rattle.dg_io.specs.declared.outside.Rack as racks
use Rattle.dg_io.specs.declared.outside.Sink as sinks
use Rattle.dg_model.specs.Causes.{Rose}
use Rattle.dg_model.specs.declared.events.Event.{Event}
use Rattle.dg_model.specs.declared.events.Event.TheVariants.{Cat, Ls}
use Rattle.dg_model.specs.States.{Counts}
use Rattle.dg_model.specs.declared.members.MemberState.TheVariants.{Out}
use Rattle.dg_model.specs.declared.replies.Reply.{Reply}
use Rattle.dg_open.specs.Reopenings.{IsCallOfOpening}
use Rattle.dg_saved.specs.Calls.{Facts}
use Rattle.dg_saved.specs.Saved.{FoundNoState, FoundUnclean, HasRun, HasShown, HasSource}
use Rattle.dg_saved.specs.Texts.{cat_text, gives_file, gives_listing, ls_text, nostate_text, unclean_text}
use Rattle.dg_saved.specs.declared.ends.SavedEnd.{SavedEnd}
use Rattle.dg_saved.specs.declared.ends.SavedEnd.TheVariants.{Done, NoState, Refused, Unclean, WriteFault}
use Rattle.dg_volume.specs.Opens.{StoodOnce}

-- the sink took this text
abbrev pub Printed : Facts → List ℕ → Type 0
Printed facts text = Told (Took text) facts.taken facts.given

-- the sink took a part of this text, from its front
abbrev pub PrintedPart : Facts → List ℕ → Type 0
PrintedPart facts text = Told (TookPart text) facts.taken facts.given

-- What every command that gives the rack back leaves: the rack's name; calls on its members 0 to 31 alone, of which each looks for a member, or reads or
-- writes it; what it tells now it told before; the faults of the sink by the end; and calls of that which each give whole lines, at most so many bytes
-- without one.
pub record LeavesSaved {K R : Type 0} (w : ℕ) (out_ghosts : sinks.Ghosts K) (rack : racks.Ghosts R) (old new : K) (before now : R) (end : SavedEnd) : Type 0 where
  pub name : rack.name now ≡ rack.name before
  pub made : Makes rack IsCallOfOpening before now
  pub tells : StillTold (rack.bytes before) (rack.bytes now)
  pub write : end ≡ WriteFault → Rose (out_ghosts.faults old) (out_ghosts.faults new)
  pub kept : end ≢ WriteFault → out_ghosts.faults new ≡ out_ghosts.faults old
  pub lines : end ≢ WriteFault → LeavesLines w out_ghosts.whole out_ghosts.calls out_ghosts.taken old new

-- ---- without an array

-- the sink failed at the line that tells it
abbrev pub CutUnopened : Facts → Type 0
CutUnopened facts = (FoundNoState facts × PrintedPart facts nostate_text) ⊎ (FoundUnclean facts × PrintedPart facts unclean_text)

-- by the end
abbrev pub EndsUnopened : Facts → SavedEnd → Type 0
EndsUnopened facts Done = ⊥
EndsUnopened facts Refused = ⊥
EndsUnopened facts NoState = FoundNoState facts × Printed facts nostate_text
EndsUnopened facts Unclean = FoundUnclean facts × Printed facts unclean_text
EndsUnopened facts WriteFault = CutUnopened facts

-- ---- one event

-- the event was answered by a reply that gives what was asked for, or by one that doesn't, and its text was printed
pub record Answered (tells : ℕ → Type 0) (facts : Facts) (event : Event) (text : Reply → List ℕ) (gives : Reply → Bool) (given : Bool) : Type 0 where
  pub reply : Reply
  pub ran : HasRun tells facts event reply
  pub kind : gives reply ≡ given
  pub output : Printed facts (text reply)

-- the event was answered, and a part of the reply's text was printed
pub record AnsweredPart (tells : ℕ → Type 0) (facts : Facts) (event : Event) (text : Reply → List ℕ) : Type 0 where
  pub reply : Reply
  pub ran : HasRun tells facts event reply
  pub output : PrintedPart facts (text reply)

-- by the end
abbrev pub EndsEvent : (ℕ → Type 0) → Facts → Event → (Reply → List ℕ) → (Reply → Bool) → SavedEnd → Type 0
EndsEvent tells facts event text gives Done = Answered tells facts event text gives true
EndsEvent tells facts event text gives Refused = Answered tells facts event text gives false
EndsEvent tells facts event text gives NoState = FoundNoState facts × Printed facts nostate_text
EndsEvent tells facts event text gives Unclean = FoundUnclean facts × Printed facts unclean_text
EndsEvent tells facts event text gives WriteFault = CutUnopened facts ⊎ AnsweredPart tells facts event text

-- the file at a path
abbrev pub EndsCat : (ℕ → Type 0) → Facts → List ℕ → SavedEnd → Type 0
EndsCat tells facts path end = EndsEvent tells facts (Cat path) cat_text gives_file end

-- the directory at a path
abbrev pub EndsLs : (ℕ → Type 0) → Facts → List ℕ → SavedEnd → Type 0
EndsLs tells facts path end = EndsEvent tells facts (Ls path) ls_text gives_listing end

-- ---- the state

abbrev pub EndsStatus : (ℕ → Type 0) → Facts → SavedEnd → Type 0
EndsStatus tells facts Done = (text : List ℕ) × HasShown tells facts text × Printed facts text
EndsStatus tells facts Refused = ⊥
EndsStatus tells facts NoState = FoundNoState facts × Printed facts nostate_text
EndsStatus tells facts Unclean = FoundUnclean facts × Printed facts unclean_text
EndsStatus tells facts WriteFault = CutUnopened facts ⊎ ((text : List ℕ) × HasShown tells facts text × PrintedPart facts text)

-- ---- which members stood

-- who wasn't out at first is such a member
abbrev pub WereSuch : (such : ℕ → Type 0) {facts : Facts} {opened : Counts} → HasSource facts opened → Type 0
WereSuch such source = (q : ℕ) → source.first q ≢ Out → such q

-- so it was where an array was opened
abbrev pub EventOfSuch : (such tells : ℕ → Type 0) (facts : Facts) (event : Event) (text : Reply → List ℕ) (gives : Reply → Bool) (end : SavedEnd)
    → EndsEvent tells facts event text gives end → Type 0
EventOfSuch such tells facts event text gives Done h = WereSuch such h.ran.source
EventOfSuch such tells facts event text gives Refused h = WereSuch such h.ran.source
EventOfSuch such tells facts event text gives WriteFault (inr h) = WereSuch such h.ran.source
EventOfSuch such tells facts event text gives end h = Unit {0}

abbrev pub StatusOfSuch : (such tells : ℕ → Type 0) (facts : Facts) (end : SavedEnd) → EndsStatus tells facts end → Type 0
StatusOfSuch such tells facts Done h = WereSuch such h.1.source
StatusOfSuch such tells facts WriteFault (inr h) = WereSuch such h.1.source
StatusOfSuch such tells facts end h = Unit {0}

-- A command ends so, and members of such an array stood at some moment of its opening.
abbrev pub EventOnce : {R : Type 0} (rack : racks.Ghosts R) (before now : R) (facts : Facts) (event : Event) (text : Reply → List ℕ) (gives : Reply → Bool) (end : SavedEnd) → Type 0
EventOnce rack before now facts event text gives end =
    (h : EndsEvent (rack.tells now) facts event text gives end) × EventOfSuch (StoodOnce rack before) (rack.tells now) facts event text gives end h

abbrev pub StatusOnce : {R : Type 0} (rack : racks.Ghosts R) (before now : R) (facts : Facts) (end : SavedEnd) → Type 0
StatusOnce rack before now facts end = (h : EndsStatus (rack.tells now) facts end) × StatusOfSuch (StoodOnce rack before) (rack.tells now) facts end h
