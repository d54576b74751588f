-- A file that is read in the middle of a run. The words are this project's own.
use Rattle.std.specs.Prelude.{◌≡◌, ◌++◌, ℕ, List, ◌∷◌}
use Rattle.dg_model.specs.Runs.{Run, Trace}
use Rattle.dg_model.specs.States.{Counts, State}
use Rattle.dg_model.specs.Steps.{Step}
use Rattle.dg_model.specs.declared.events.Event.{Event}
use Rattle.dg_model.specs.declared.events.Event.TheVariants.{Array, Cat}
use Rattle.dg_model.specs.declared.phases.Phase.TheVariants.{Settled}
use Rattle.dg_model.specs.declared.replies.Reply.{Reply}
use Rattle.dg_model.specs.declared.replies.Reply.TheVariants.{Done}
use Rattle.dg_model.specs.declared.shapes.Shape.{Shape}
use Rattle.dg_promise.specs.Promises.{AreTold, FewLost, IsAsPromised, LosesNone}

-- A run from the blank array, whose events are some first ones, the reading of a path, and the rest: the states before and after the
-- reading, and its reply, which is the promised one where the array is settled then, few boundaries are lost, and none becomes lost.
pub record ReadsInRun (before : Counts) (shape : Shape) (front : List Event) (path : List ℕ) (rest : List Event) (replies : List Reply) (last : State) : Type 0 where
  pub old : State
  pub new : State
  pub reply : Reply
  pub earlier : List Reply
  pub later : List Reply
  pub replies_are : replies ≡ earlier ++ reply ∷ later
  pub led : Trace AreTold before (Array shape ∷ front) (Done ∷ earlier) old
  pub step : Step AreTold old (Cat path) reply new
  pub on : Run AreTold new rest later last
  pub promised : old.phase ≡ Settled → FewLost old → LosesNone old new → IsAsPromised old path reply
