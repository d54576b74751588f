-- The volume of a drill beside the states of the model.
use Rattle.std.specs.Prelude.{◌≡◌, ◌⊎◌, ◌+◌, ℕ, List, [], ◌∷◌, false, length}
use Rattle.dg_drill.specs.Drills.{read_events, written_count}
use Rattle.dg_drill.specs.Outcomes.{IsTally, outcome_of}
use Rattle.dg_drill.specs.declared.reads.Outcome.{Outcome}
use Rattle.dg_drill.specs.declared.reads.Tally.{Tally}
use Rattle.dg_io.specs.declared.outside.Rack.{Ghosts}
use Rattle.dg_model.specs.Runs.{Run}
use Rattle.dg_model.specs.Sites.{has_site}
use Rattle.dg_model.specs.States.{State}
use Rattle.dg_model.specs.Steps.{Step}
use Rattle.dg_model.specs.Tables.{Table, sites_in}
use Rattle.dg_model.specs.declared.events.Event.{Event}
use Rattle.dg_model.specs.declared.events.Event.TheVariants.{Fail}
use Rattle.dg_model.specs.declared.replies.Reply.{Reply}
use Rattle.dg_model.specs.declared.replies.Reply.TheVariants.{Done}
use Rattle.dg_volume.specs.Origins.{Always}
use Rattle.dg_volume.specs.Volumes.{Known, StandsIn, any_phase}
use Rattle.dg_volume.specs.declared.phases.AnyPhase.{AnyPhase}
use Rattle.dg_volume.specs.declared.volumes.Volume.{Volume}

-- ---- steps

-- whichever state the volume was in, it made a step from it, to a state that it is in now
abbrev pub Steps : {R : Type 0} → Ghosts R → Volume AnyPhase R → Event → Reply → Volume AnyPhase R → Type 0
Steps rack old event reply new = (state : State) → StandsIn any_phase rack Always old state →
    (next : State) × StandsIn any_phase rack Always new next × Step (Known Always rack new) state event reply next

-- from this state events had these replies, in one step after another, to a state that the volume is in now
pub record LedTo {R : Type 0} (rack : Ghosts R) (state : State) (events : List Event) (replies : List Reply) (new : Volume AnyPhase R) (next : State) : Type 0 where
  pub stands : StandsIn any_phase rack Always new next
  pub run : Run (Known Always rack new) state events replies next

-- ---- writes

-- how many blocks more are written, once one was that wasn't
abbrev pub done_count : Reply → ℕ
done_count Done = 1
done_count reply = 0

-- an event was answered, by which so many blocks more are written
pub record HasAnswered {R : Type 0} (rack : Ghosts R) (old : Volume AnyPhase R) (event : Event) (more : ℕ) (new : Volume AnyPhase R) : Type 0 where
  pub reply : Reply
  pub steps : Steps rack old event reply new
  pub count : more ≡ done_count reply

-- the number is one of these
abbrev pub IsIn : ℕ → List ℕ → Type 0
IsIn c [] = ⊥
IsIn c (x ∷ xs) = (c ≡ x) ⊎ IsIn c xs

-- none of these numbers stands twice
abbrev pub AreApart : List ℕ → Type 0
AreApart [] = Unit {0}
AreApart (x ∷ xs) = (IsIn x xs → ⊥) × AreApart xs

-- none of these blocks is written
abbrev pub AreUnwritten : Table → List ℕ → Type 0
AreUnwritten table blocks = (b : ℕ) → IsIn b blocks → has_site (sites_in table b) ≡ false

-- events led on from this state, by which so many blocks more are written, and none of the rest
pub record HasWritten {R : Type 0} (rack : Ghosts R) (state : State) (events : List Event) (rest : List ℕ) (more : ℕ) (new : Volume AnyPhase R) : Type 0 where
  pub replies : List Reply
  pub next : State
  pub led : LedTo rack state events replies new next
  pub count : written_count next.table ≡ written_count state.table + more
  pub unwritten : AreUnwritten next.table rest

-- ---- losses

-- both members of boundary s failed, or were out
pub record HasLost {R : Type 0} (rack : Ghosts R) (state : State) (s : ℕ) (new : Volume AnyPhase R) : Type 0 where
  pub losses : List Reply
  pub next : State
  pub led : LedTo rack state (Fail s 0 ∷ Fail s 1 ∷ []) losses new next
  pub number : length losses ≡ 2

-- ---- reads

-- the reading of a file that should have these bytes was answered
pub record HasRead {R : Type 0} (rack : Ghosts R) (old : Volume AnyPhase R) (event : Event) (wanted : List ℕ) (outcome : Outcome) (new : Volume AnyPhase R) : Type 0 where
  pub reply : Reply
  pub steps : Steps rack old event reply new
  pub outcome_is : outcome ≡ outcome_of wanted reply

-- so were the readings of the first files, one after another
pub record HasReadAll {R : Type 0} (rack : Ghosts R) (seed : ℕ) (state : State) (files : ℕ) (tally : Tally) (new : Volume AnyPhase R) : Type 0 where
  pub replies : List Reply
  pub next : State
  pub led : LedTo rack state (read_events files) replies new next
  pub number : length replies ≡ files
  pub tallied : IsTally seed replies tally
