-- Runs that end with a save, members that are taken away, and runs on what is left. The rules are this project's own.
use Rattle.std.specs.Prelude.{◌≡◌, ◌≢◌, ◌⊎◌, ◌↔◌, ◌*◌, ◌<◌, ◌/◌, ℕ, Bool, true, false, List, Option, Some, IfSome, IsSome, IsSomeAnd, length}
use Rattle.dg_model.specs.Blocks.{IsTrimmed, block_in}
use Rattle.dg_model.specs.Changes.{AreGoodMarks, IsInOrder}
use Rattle.dg_model.specs.Marks.{AreNext}
use Rattle.dg_model.specs.Moments.{HistoryOf, Moment}
use Rattle.dg_model.specs.Members.{is_filling, is_good}
use Rattle.dg_model.specs.Openings.{IsReopened}
use Rattle.dg_model.specs.Sites.{is_gone}
use Rattle.dg_model.specs.States.{Counts, Holds, State, is_broken, saved_of}
use Rattle.dg_model.specs.Steps.{Step}
use Rattle.dg_model.specs.declared.events.Event.{Event}
use Rattle.dg_model.specs.declared.events.Event.TheVariants.{Audit, Cat, Home, LostFiles, Ls, Pending, Read, Save as SaveEvent, Tree, Who}
use Rattle.dg_model.specs.declared.members.MemberState.TheVariants.{Good, Out}
use Rattle.dg_model.specs.declared.phases.Phase.TheVariants.{Settled}
use Rattle.dg_model.specs.declared.replies.Reply.{Reply}
use Rattle.dg_model.specs.declared.replies.Reply.TheVariants.{Data, Saved}
use Rattle.dg_kept.specs.Opened.{AreTold, IsKept}
use Rattle.dg_kept.specs.Saved.{HasSaved, IsOlder, IsSave, Save}

-- ---- the state that is saved

-- all boundaries of the first line are in use
abbrev pub AreAllInUse : State → Type 0
AreAllInUse state = length state.live ≡ state.boundaries

-- What a step that saved a state under this number left: the label, the state and the blocks of the old state, which the members that are good
-- in the end have, where they tell their bytes; and one that is refilled is older.
pub record LeavesSave (old : State) (number : ℕ) (new : State) (bytes : ℕ → Option (List ℕ)) (save : Save) : Type 0 where
  pub is : IsSave save
  pub number_is : save.label.sequence ≡ number
  pub label : new.label ≡ Some save.label
  pub state : save.state ≡ saved_of old save.state.good
  pub good : AreGoodMarks old new save.state.good
  pub blocks : save.blocks ≡ old.blocks
  pub has : (q : ℕ) → is_good (new.members q) ≡ true → IfSome (bytes q) (HasSaved save q)
  pub fresh : (q : ℕ) → q / 2 < new.table.shape.b → is_filling (new.members q) ≡ true → IfSome (bytes q) (IsOlder save q)

-- ---- members that are taken away

-- member q was left as it was
pub record IsLeft (bytes images : ℕ → Option (List ℕ)) (q : ℕ) : Type 0 where
  pub told : IsSome (bytes q)
  pub same : images q ≡ bytes q

-- member q of an array in this state wasn't out, and was left as it was
pub record StandsStill (new : State) (bytes images : ℕ → Option (List ℕ)) (q : ℕ) : Type 0 where
  pub own : q / 2 < new.table.shape.b
  pub stood : new.members q ≢ Out
  pub left : IsLeft bytes images q

-- Members were taken away after a save that led to this state. One that was good then was left as it was. Each other one was so too, or was
-- out, or isn't there any more: it has what was saved, or is older.
pub record AreTakenAway (save : Save) (new : State) (bytes images : ℕ → Option (List ℕ)) : Type 0 where
  pub one : (q : ℕ) × (q < 32) × (is_good (new.members q) ≡ true) × IsLeft bytes images q
  pub each : (q : ℕ) → q < 32 → StandsStill new bytes images q ⊎ IsSomeAnd (images q) (λ all. HasSaved save q all ⊎ IsOlder save q all)

-- ---- runs

-- From somewhere a run led to an old state, which was then saved under this number.
pub record EndsWithSave (Led : State → Type 0) (number : ℕ) (last : State) (bytes : ℕ → Option (List ℕ)) : Type 0 where
  pub old : State
  pub led : Led old
  pub step : Step AreTold old SaveEvent (Saved number) last
  pub save : Save
  pub left : LeavesSave old number last bytes save

-- The array was opened as this old state was saved, but for members that are out: with its sites, homes and recent inodes, its marks as an opening
-- leaves them, and in the phase and with the copies that an opening gives. Members are good exactly where they have what was saved and were good. The
-- members hold the blocks of the old state; and whichever blocks they hold, each that isn't gone has its value of then. Where the old state was settled
-- and in order, no boundary is lost, and the blocks are those of then, the array is settled, with all copies.
pub record IsResumed (old : State) (save : Save) (images : ℕ → Option (List ℕ)) (state : State) : Type 0 where
  pub table : state.table ≡ old.table
  pub homes : state.homes ≡ old.homes
  pub recent : state.recent ≡ old.recent
  pub marks : AreNext (is_broken state) AreTold state.table.shape.l state.table.shape.n state.blocks old.pending state.pending
  pub phase : IsReopened AreTold (saved_of old save.state.good) state
  pub good : (q : ℕ) → (state.members q ≡ Good) ↔ IsKept save images q
  pub out : (q : ℕ) → (state.members q ≡ Good) ⊎ (state.members q ≡ Out)
  pub held : Holds images (record state { blocks = old.blocks })
  pub blocks : Holds images state → (b : ℕ) → b < old.table.shape.n → is_gone state.table state.members b ≡ false
      → block_in state.blocks b ≡ block_in old.blocks b
  pub whole : Holds images state → is_broken state ≡ false → state.blocks ≡ old.blocks
  pub settled : old.phase ≡ Settled → IsInOrder AreTold old → is_broken state ≡ false → state.blocks ≡ old.blocks
      → (state.phase ≡ Settled) × (state.copies ≡ old.copies)

-- the reply gives block b of some blocks, without the zeros at its end
pub record GivesBlock (blocks : List (List ℕ)) (b : ℕ) (reply : Reply) : Type 0 where
  pub bytes : List ℕ
  pub reply_is : reply ≡ Data bytes
  pub trimmed : IsTrimmed bytes (block_in blocks b)

-- the event reads the volume, or tells of it
abbrev pub IsReading : Event → Type 0
IsReading (Read b) = Unit {0}
IsReading (Who b) = Unit {0}
IsReading Pending = Unit {0}
IsReading (Cat path) = Unit {0}
IsReading (Ls path) = Unit {0}
IsReading Tree = Unit {0}
IsReading (Home path) = Unit {0}
IsReading LostFiles = Unit {0}
IsReading Audit = Unit {0}
IsReading event = ⊥

-- a run of an array of any kind led to this state
pub record WasLed (before : Counts) (events : List Event) (replies : List Reply) (state : State) : Type 0 where
  pub moment : Moment
  pub state_is : moment.state ≡ state
  pub history : HistoryOf AreTold before events replies moment
