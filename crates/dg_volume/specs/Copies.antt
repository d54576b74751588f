-- The replies that the answers of a spreading of copies stand for, and steps of states by the files that were read last.
use Rattle.std.specs.Prelude.{◌≡◌, ℕ, List}
use Rattle.dg_hot.specs.declared.spreads.DiffuseAnswer.{DiffuseAnswer}
use Rattle.dg_hot.specs.declared.spreads.DiffuseAnswer.TheVariants.{Diffused, Lost}
use Rattle.dg_io.specs.declared.outside.Rack.{Ghosts}
use Rattle.dg_model.specs.States.{State}
use Rattle.dg_model.specs.Steps.{Step}
use Rattle.dg_model.specs.declared.events.Event.{Event}
use Rattle.dg_model.specs.declared.replies.Reply.{Reply}
use Rattle.dg_model.specs.declared.replies.Reply.TheVariants.{Diffused as DiffusedReply, Lost as LostReply, NotSettled as NotSettledReply}
use Rattle.dg_volume.specs.Volumes.{Known, StandsIn}
use Rattle.dg_volume.specs.Origins.{Origin, WasHeld}
use Rattle.dg_volume.specs.declared.copies.AnyDiffuse.{AnyDiffuse}
use Rattle.dg_volume.specs.declared.copies.AnyDiffuse.TheVariants.{Is, NotSettled}
use Rattle.dg_volume.specs.declared.phases.InPhase as phases
use Rattle.dg_volume.specs.declared.volumes.Volume.{Volume}

abbrev pub diffuse_reply : DiffuseAnswer → Reply
diffuse_reply (Diffused gained) = DiffusedReply gained
diffuse_reply (Lost s) = LostReply s

abbrev pub any_diffuse_reply : AnyDiffuse → Reply
any_diffuse_reply (Is answer) = diffuse_reply answer
any_diffuse_reply NotSettled = NotSettledReply

-- Whichever state the volume was in, of those in which these files were read last, it made a step from it, to a state that it is in now,
-- and they were read last in that one too.
abbrev pub StepsHot : {S T R : Type 0} → phases.Ghosts S → phases.Ghosts T → Ghosts R → List ℕ → Volume S R → Event → Reply → Volume T R → Type 0
StepsHot {R = R} from to rack hot old event reply new = (origin : Origin R) (state : State) → StandsIn from rack (WasHeld rack origin) old state → state.recent ≡ hot →
    (next : State) × StandsIn to rack (WasHeld rack origin) new next × Step (Known (WasHeld rack origin) rack new) state event reply next × (next.recent ≡ state.recent)
