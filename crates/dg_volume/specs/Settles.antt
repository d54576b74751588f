-- What settling and moving leave of a volume, by their answers.
use Rattle.std.specs.Prelude.{◌≡◌, Result, Ok, Err}
use Rattle.dg_io.specs.declared.outside.Rack.{Ghosts}
use Rattle.dg_model.specs.declared.events.Event.{Event}
use Rattle.dg_model.specs.declared.replies.Reply.{Reply}
use Rattle.dg_model.specs.declared.replies.Reply.TheVariants.{Lost as LostReply, Malformed as MalformedReply, NoSpace as NoSpaceReply, Settled as SettledReply, Tended as TendedReply}
use Rattle.dg_store.specs.Stores.{KeepsBlocks}
use Rattle.dg_volume.specs.Volumes.{Leaves, StepsTo, Tells, given_of}
use Rattle.dg_volume.specs.declared.phases.InPhase as phases
use Rattle.dg_volume.specs.declared.settles.TendRun.{TendRun}
use Rattle.dg_volume.specs.declared.settles.TendRun.TheVariants.{Lost as TendLost, NoSpace as TendNoSpace, Tended}
use Rattle.dg_volume.specs.declared.settles.Unsettled.{Unsettled}
use Rattle.dg_volume.specs.declared.settles.Unsettled.TheVariants.{Lost, Malformed, NoSpace}
use Rattle.dg_volume.specs.declared.volumes.Volume.{Volume}

-- why a volume isn't settled
abbrev pub unsettled_reply : Unsettled → Reply
unsettled_reply (Lost s) = LostReply s
unsettled_reply (Malformed kind n) = MalformedReply kind n
unsettled_reply (NoSpace bad) = NoSpaceReply bad

-- or that it is
abbrev pub settle_reply : Result (Unit {0}) Unsettled → Reply
settle_reply (Ok done) = SettledReply
settle_reply (Err unsettled) = unsettled_reply unsettled

-- what became of moves
abbrev pub tend_reply : TendRun → Reply
tend_reply (Tended moved left) = TendedReply moved left
tend_reply (TendLost s) = LostReply s
tend_reply (TendNoSpace bad) = NoSpaceReply bad

-- the volume made a step by this event, and tells the inode that it told
pub record GoesBy {S T R : Type 0} (from : phases.Ghosts S) (to : phases.Ghosts T) (rack : Ghosts R) (old : Volume S R) (event : Event) (reply : Reply) (new : Volume T R) : Type 0 where
  pub leaves : Leaves from to rack old new
  pub given_is : given_of new ≡ given_of old
  pub steps : StepsTo from to rack old event reply new

-- its array stands for what it stood for, where each member tells its bytes
abbrev pub KeepsArray : {S T R : Type 0} → Ghosts R → Volume S R → Volume T R → Type 0
KeepsArray rack old new = Tells rack new → KeepsBlocks rack old.store new.store
