-- Steps from a saved array that was opened in a call of the program. What is known of blocks is known where the rack tells the members in the
-- end (`tells`).
use Rattle.std.specs.Prelude.{◌≡◌, ◌⊎◌, ◌/◌, ◌<◌, false, List, Option, ℕ}
use Rattle.dg_io.specs.Kept.{Kept}
use Rattle.dg_model.specs.Moments.{AreCountsOf, History, Moment}
use Rattle.dg_model.specs.Moments.Kind.{double, plain}
use Rattle.dg_model.specs.States.{Counts, CountsRise, State}
use Rattle.dg_model.specs.declared.events.Event.{Event}
use Rattle.dg_model.specs.declared.replies.Reply.{Reply}
use Rattle.dg_regroup.specs.declared.extras.Extra.{Extra}
use Rattle.dg_run.specs.Calls.{Facts, met_by}
use Rattle.dg_run.specs.Finds.{BeganLabeled, HasFailed, boundaries_said, tells_seen}
use Rattle.dg_run.specs.Keeping.{IsShownBy, Keeping, KeepsAlong, Reopens}
use Rattle.dg_run.specs.Keeping.Keeping.{found}
use Rattle.dg_run.specs.Keeping.Mark.{there}
use Rattle.dg_run.specs.Replays.{HoldsInUse}
use Rattle.dg_saved.specs.Calls as commands
use Rattle.dg_saved.specs.Saved.{HasSource, IsKnown, IsOpenedAs}

-- the moment of an opened array: its state with these counts of its members, over a rack with the counts that it had then
abbrev pub opened_moment : State → Counts → Counts → Moment
opened_moment state first opened = record { state = record state { counts = first }; beneath = record { counts = opened; out = λ d. false } }

-- the same over a rack that keeps a checkpoint, which has these counts
abbrev pub kept_moment : State → Counts → Moment
kept_moment state counts = record { state = state; beneath = record { counts = counts; out = λ d. false } }

module _ (tells : ℕ → Type 0) (facts : Facts) (opened : Counts) (source : HasSource (met_by facts) opened) where
  -- From the state in which the array was opened with these blocks, these events had these replies, in one step after another. The members of its
  -- boundaries had the counts of the rack's then.
  pub record Resumed (V : List (List ℕ)) (events : List Event) (replies : List Reply) : Type 0 where
    pub state : State
    pub is : IsOpenedAs tells (met_by facts) opened source V state
    pub first : Counts
    pub begun : AreCountsOf state.live opened first
    pub final : Moment
    pub history : History (IsKnown tells (met_by facts) opened source V) plain (opened_moment state first opened) events replies final

  -- the same, and the rack has the counts of the last moment; where the blocks are known its members hold the last state
  pub record Reached (V : List (List ℕ)) (events : List Event) (replies : List Reply) : Type 0 where
    pub resumed : Resumed V events replies
    pub holds : IsKnown tells (met_by facts) opened source V → HoldsInUse facts.bytes resumed.final.state
    pub counts : resumed.final.beneath.counts ≡ facts.now

-- ---- an array that keeps a checkpoint

-- The rack tells each member of the first line's boundaries in the end.
abbrev pub TellsFirst : (ℕ → Type 0) → Option Extra → Type 0
TellsFirst tells said = (m : ℕ) → m / 2 < boundaries_said said → tells m

-- member p was missed when the array was opened: a call on it failed, or it begins as the label of an array that keeps no checkpoint
abbrev pub IsMissed : Facts → ℕ → Type 0
IsMissed facts p = HasFailed (met_by facts) p ⊎ BeganLabeled (met_by facts) p

-- From the moment in which an array was opened over this checkpoint these events led to the final one, and what was kept along them last is what the members
-- are reopened as.
pub record KeepsOpened (Known : Type 0) (facts : Facts) (said : Option Extra) (kept : Kept) (start : Moment) (events : List Event) (replies : List Reply) (final : Moment) : Type 0 where
  pub first : Kept
  pub shows : IsShownBy said kept first
  pub last : Keeping
  pub along : KeepsAlong Known double (found first (λ p. there)) start events replies final last
  pub reopens : Reopens (IsMissed facts) (IsShownBy said) facts.bytes final.state last

-- What is seen of the array (`seen`) is told up to where it was opened.
module _ (tells : ℕ → Type 0) (facts : Facts) (seen : commands.Facts) (said : Option Extra) (opened : Counts) (source : HasSource seen opened) where
  -- what is said of these blocks is said of them where the rack tells the members in the end, and they held them when headers had been read
  abbrev pub IsKnownKept : List (List ℕ) → Type 0
  IsKnownKept V = TellsFirst tells said × IsKnown (tells_seen tells said) seen opened source V

  -- From the state in which the array was opened with these blocks, these events had these replies, in one step after another. The rack had these counts then.
  pub record ResumedKept (V : List (List ℕ)) (events : List Event) (replies : List Reply) : Type 0 where
    pub state : State
    pub is : IsOpenedAs (tells_seen tells said) seen opened source V state
    pub beneath : Counts
    pub rise : CountsRise facts.before beneath
    pub final : Moment
    pub history : History (IsKnownKept V) double (kept_moment state beneath) events replies final

  -- The same, and the rack has the counts of the last moment. Of each checkpoint that the members were reopened as (`WasKept`) it is told what became of it.
  pub record ReachedKept (WasKept : Kept → Type 0) (V : List (List ℕ)) (events : List Event) (replies : List Reply) : Type 0 where
    pub resumed : ResumedKept V events replies
    pub counts : resumed.final.beneath.counts ≡ facts.now
    pub keeps : IsKnownKept V → (kept : Kept) → WasKept kept
        → KeepsOpened (IsKnownKept V) facts said kept (kept_moment resumed.state resumed.beneath) events replies resumed.final

-- ---- no input was read

abbrev pub ReadsNothing : Facts → Type 0
ReadsNothing facts = facts.rest ≡ facts.left
