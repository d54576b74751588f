-- A trace that was made of an image and then replayed. The rules are this project's own.
use Rattle.std.specs.Prelude.{◌≡◌, ℕ, List, Option, All}
use Rattle.dg_io.specs.Told.{Told, Took}
use Rattle.dg_model.specs.States.{HoldsAll, State}
use Rattle.dg_model.specs.declared.replies.Reply.{Reply}
use Rattle.dg_model.specs.declared.replies.Reply.TheVariants.{Done}
use Rattle.dg_text.specs.Replies.{output_of}
use Rattle.dg_trace.specs.Answers.{IsAccepted}
use Rattle.dg_trace.specs.Replays.{HoldsVolume}
use Rattle.dg_trace.specs.declared.asked.Asked.{Asked}
use Rattle.ufs_model.specs.declared.geometries.Geometry.{Geometry}

-- The image is accepted. Each line of its trace was answered by `ok`, and nothing else was printed; the members hold the image's volume.
pub record HoldsTraced (asked : Asked) (image : List ℕ) (taken given : Option (List ℕ)) (bytes : ℕ → Option (List ℕ)) : Type 0 where
  pub g : Geometry
  pub accepted : IsAccepted asked image g
  pub replies : List Reply
  pub done : All (λ reply. reply ≡ Done) replies
  pub output : Told (Took (output_of replies)) taken given
  pub final : State
  pub volume : HoldsVolume g image final
  pub holds : HoldsAll bytes final
