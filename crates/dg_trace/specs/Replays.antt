-- What an array holds once the trace of an image was replayed.
use Rattle.std.specs.Prelude.{◌≡◌, ◌<◌, ℕ, List, All, length}
use Rattle.dg_model.specs.Blocks.{block_in}
use Rattle.dg_model.specs.States.{State}
use Rattle.dg_model.specs.declared.replies.Reply.{Reply}
use Rattle.dg_model.specs.declared.replies.Reply.TheVariants.{Done}
use Rattle.dg_trace.specs.Answers.{volume_bytes}
use Rattle.ufs_build.specs.Traces.{block_in as image_block}
use Rattle.ufs_model.specs.declared.geometries.Geometry.{Geometry}

-- the bytes of members are told
abbrev pub AreTold : Type 0
AreTold = Unit {0}

-- The array has the blocks of the volume on an image: one for each fragment, with its bytes.
pub record HoldsVolume (g : Geometry) (image : List ℕ) (state : State) : Type 0 where
  pub count : length state.blocks ≡ g.size
  pub each : (b : ℕ) → b < g.size → block_in state.blocks b ≡ image_block g.fsize (volume_bytes g image) b

-- each event was done, and the array has them
pub record IsReplayed (g : Geometry) (image : List ℕ) (replies : List Reply) (state : State) : Type 0 where
  pub done : All (λ reply. reply ≡ Done) replies
  pub holds : HoldsVolume g image state
