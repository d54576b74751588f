-- A call on what is left of a saved array, after members were taken away. The rules are this project's own.
use Rattle.std.specs.Prelude.{◌≡◌, ◌⊎◌, ◌<◌, ◌++◌, ◌∷◌, ℕ, false, List, [], Option, None, IfSome}
use Rattle.dg_io.specs.Told.{Told, Took}
use Rattle.dg_kept.specs.Opened.{AreTold}
use Rattle.dg_kept.specs.Saved.{Save}
use Rattle.dg_kept.specs.SavedRuns.{AreTakenAway, GivesBlock, IsResumed, LeavesSave}
use Rattle.dg_kept.specs.Taken.{AreTaken}
use Rattle.dg_model.specs.Causes.{NoneRose}
use Rattle.dg_model.specs.Moments.{AreCountsOf, History, Moment}
use Rattle.dg_model.specs.Moments.Kind.{plain}
use Rattle.dg_model.specs.Openings.{Found, Opens}
use Rattle.dg_model.specs.Runs.{Run}
use Rattle.dg_model.specs.States.{Counts, HoldsAll, State, gone_in}
use Rattle.dg_model.specs.Steps.{Step}
use Rattle.dg_model.specs.declared.events.Event.{Event}
use Rattle.dg_model.specs.declared.events.Event.TheVariants.{Read}
use Rattle.dg_model.specs.declared.replies.Reply.{Reply}
use Rattle.dg_run.specs.Calls.{Facts}
use Rattle.dg_run.specs.Endings.{GaveLines}
use Rattle.dg_run.specs.Opened.{opened_moment}
use Rattle.dg_run.specs.Replays.{HoldsInUse}
use Rattle.dg_saved.specs.Calls.{Facts as SavedFacts}
use Rattle.dg_stop.specs.Headers.{HasNoHeader, IsLabeled}
use Rattle.dg_text.specs.Lines.{input_of}
use Rattle.dg_text.specs.Replies.{output_of}
use Rattle.dg_uses.specs.Answers.{TellsEach}

-- A save left this on the members, which were then taken away or not, and these bytes are what a call finds of them (`images`). Each member
-- tells its bytes when the call ends.
pub record IsFoundAgain (old : State) (number : ℕ) (last : State) (held : ℕ → Option (List ℕ)) (save : Save)
    (images bytes : ℕ → Option (List ℕ)) : Type 0 where
  pub left : LeavesSave old number last held save
  pub away : AreTakenAway save last held images
  pub tells : TellsEach bytes

-- no member that begins without a label has the header of an array that keeps a checkpoint
abbrev pub HaveNoHeaders : (ℕ → Option (List ℕ)) → Type 0
HaveNoHeaders images = (q : ℕ) → q < 32 → IfSome (images q) (λ all. IsLabeled all ⊎ HasNoHeader q all)

-- nothing is kept beside the state, and there is no room for it
pub record KeepsNothing (facts : SavedFacts) : Type 0 where
  pub extra : facts.extra ≡ []
  pub room : facts.room ≡ None

-- The array was opened from members with these bytes, by a rack that had these counts before, and no count of faults rose.
pub record IsOpenedFrom (images : ℕ → Option (List ℕ)) (before : Counts) (state : State) : Type 0 where
  pub taken : ℕ → Option Found
  pub are : AreTaken images taken
  pub opens : Opens AreTold taken None before state
  pub none : NoneRose before.faults state.counts.faults

-- The array was opened in this state, which is the old one but for members that are out, with all blocks of the old one.
pub record IsOpenedAgain (old : State) (save : Save) (images : ℕ → Option (List ℕ)) (before : Counts) (state : State) : Type 0 where
  pub opened : IsOpenedFrom images before state
  pub resumed : IsResumed old save images state
  pub blocks : state.blocks ≡ old.blocks

-- The array went on from the old state, which was saved: from the state in which it was opened these events had these replies, in one step after
-- another. Its members had the counts of the rack's when it was opened. The members in use hold the state of the last moment, which has the counts
-- of the rack.
pub record GoesOn (old : State) (save : Save) (images bytes : ℕ → Option (List ℕ)) (before now : Counts)
    (events : List Event) (replies : List Reply) : Type 0 where
  pub state : State
  pub again : IsOpenedAgain old save images before state
  pub first : Counts
  pub begun : AreCountsOf state.live state.counts first
  pub final : Moment
  pub history : History AreTold plain (opened_moment state first state.counts) events replies final
  pub holds : HoldsInUse bytes final.state
  pub counts : final.beneath.counts ≡ now

-- the state from which its events go on: the one in which it was opened, with the counts of its members
abbrev pub first_of : {old : State} {save : Save} {images bytes : ℕ → Option (List ℕ)} {before now : Counts} {events : List Event} {replies : List Reply}
    → GoesOn old save images bytes before now events replies → State
first_of on = (opened_moment on.state on.first on.state.counts).state

-- From the state in which the array was opened again, the event had this reply in one step. The members hold the last state, which has the counts
-- of the rack.
pub record IsAnswered (old : State) (save : Save) (images bytes : ℕ → Option (List ℕ)) (before now : Counts) (event : Event) (reply : Reply) : Type 0 where
  pub state : State
  pub again : IsOpenedAgain old save images before state
  pub final : State
  pub step : Step AreTold state event reply final
  pub holds : HoldsAll bytes final
  pub counts : final.counts ≡ now

-- Of these replies, to these first events from a state and then to a read of block b, the one to that read is that of a step. Where the block
-- isn't gone after it, it gives the block's value of the old state.
pub record GivesSaved (old first : State) (front : List Event) (b : ℕ) (replies : List Reply) : Type 0 where
  pub answers : List Reply
  pub reply : Reply
  pub others : List Reply
  pub split : replies ≡ answers ++ reply ∷ others
  pub mid : State
  pub led : Run AreTold first front answers mid
  pub new : State
  pub step : Step AreTold mid (Read b) reply new
  pub gives : gone_in new b ≡ false → GivesBlock old.blocks b reply

-- The input was read to its end, and is the lines of events with which the array went on; the output is the text of their replies.
pub record HasGoneOn (old : State) (save : Save) (facts : Facts) : Type 0 where
  pub events : List Event
  pub replies : List Reply
  pub on : GoesOn old save facts.images facts.bytes facts.before facts.now events replies
  pub input : Told (λ b a. (b ≡ input_of events) × (a ≡ [])) facts.left facts.rest
  pub output : Told (Took (output_of replies)) facts.taken facts.given

-- The source failed: the lines that it gave whole are those of events with which the array went on; the output is the text of their replies.
pub record HasGoneOnSoFar (old : State) (save : Save) (facts : Facts) : Type 0 where
  pub events : List Event
  pub replies : List Reply
  pub on : GoesOn old save facts.images facts.bytes facts.before facts.now events replies
  pub input : Told (GaveLines (input_of events)) facts.left facts.rest
  pub output : Told (Took (output_of replies)) facts.taken facts.given

-- An event was answered by the array that was opened again, and the text of its reply was printed.
pub record HasAnswered (old : State) (save : Save) (facts : SavedFacts) (event : Event) (text : Reply → List ℕ) : Type 0 where
  pub reply : Reply
  pub is : IsAnswered old save facts.images facts.bytes facts.before facts.now event reply
  pub output : Told (Took (text reply)) facts.taken facts.given
