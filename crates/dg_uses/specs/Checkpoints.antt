-- What an array that keeps a checkpoint is reopened as behind a save. The rules are this project's own.
use Rattle.std.specs.Prelude.{◌≡◌, ◌∷◌, [], ℕ, List, Option}
use Rattle.dg_io.specs.Kept.{Kept}
use Rattle.dg_kept.specs.Opened.{AreTold}
use Rattle.dg_model.specs.Blocks.{block_in, padded}
use Rattle.dg_model.specs.Moments.{Happens, History, HistoryOf, Moment}
use Rattle.dg_model.specs.Moments.Kind.{double}
use Rattle.dg_model.specs.States.{Counts, State}
use Rattle.dg_model.specs.declared.events.Event.{Event}
use Rattle.dg_model.specs.declared.events.Event.TheVariants.{Replace, Safe, Save, Write}
use Rattle.dg_model.specs.declared.replies.Reply.{Reply}
use Rattle.dg_model.specs.declared.replies.Reply.TheVariants.{Done, Saved}
use Rattle.dg_model.specs.declared.shapes.Shape.{Shape}
use Rattle.dg_regroup.specs.declared.extras.Extra.{Extra}
use Rattle.dg_run.specs.Calls.{Facts}
use Rattle.dg_run.specs.Keeping.{IsShownBy, MissesNone, ReopensAs, ShowsAll}
use Rattle.dg_run.specs.Keeping.Keeping.{found, saved}
use Rattle.dg_run.specs.Keeping.Mark.{there}
use Rattle.dg_run.specs.Opened.{IsMissed}
use Rattle.dg_uses.specs.Replays.{AreNone}

-- the event neither saves nor makes a member anew
abbrev pub LeavesKept : Event → Type 0
LeavesKept Save = ⊥
LeavesKept (Replace s j) = ⊥
LeavesKept event = Unit {0}

-- The events up to a save led from nothing to a moment, from which the save was answered by this number; and those behind it led on to the final one.
-- The members are reopened as what that save kept: all of it, and nothing that was done since.
pub record ReopensSaved (Known : Type 0) (before : Counts) (shape : Shape) (front : List Event) (answers : List Reply) (number : ℕ) (rest : List Event)
    (others : List Reply) (final : Moment) (bytes : ℕ → Option (List ℕ)) : Type 0 where
  pub old : Moment
  pub mid : Moment
  pub led : HistoryOf Known before (Safe shape ∷ front) (Done ∷ answers) old
  pub saves : Happens Known double old Save (Saved number) mid
  pub went : History Known double mid rest others final
  pub reopens : ReopensAs MissesNone ShowsAll bytes final.state (saved mid.state (λ p. there))

-- The same of an array that was opened, from that moment on, as the array shows what is kept.
pub record ReopensResumed (Known : Type 0) (facts : Facts) (said : Option Extra) (start : Moment) (front : List Event) (answers : List Reply) (number : ℕ)
    (rest : List Event) (others : List Reply) (final : Moment) : Type 0 where
  pub old : Moment
  pub mid : Moment
  pub led : History Known double start front answers old
  pub saves : Happens Known double old Save (Saved number) mid
  pub went : History Known double mid rest others final
  pub reopens : ReopensAs (IsMissed facts) (IsShownBy said) facts.bytes final.state (saved mid.state (λ p. there))

-- It was opened over this checkpoint, and the members are reopened as that, as the array shows it.
pub record ReopensFound (facts : Facts) (said : Option Extra) (kept : Kept) (final : State) : Type 0 where
  pub first : Kept
  pub shows : IsShownBy said kept first
  pub reopens : ReopensAs (IsMissed facts) (IsShownBy said) facts.bytes final (found first (λ p. there))

-- Over a new rack, which has these counts now, an array was made, a block was written and the state was saved, and all was done. The members are reopened as
-- what the save kept, in which the block has the bytes that were written.
pub record ReopensBlock (shape : Shape) (b : ℕ) (written : List ℕ) (now : Counts) (bytes : ℕ → Option (List ℕ)) : Type 0 where
  pub before : Counts
  pub fresh : AreNone before
  pub final : Moment
  pub counts : final.beneath.counts ≡ now
  pub saved_then : ReopensSaved AreTold before shape (Write b written ∷ []) (Done ∷ []) 1 [] [] final bytes
  pub block : block_in saved_then.mid.state.blocks b ≡ padded shape.l written
