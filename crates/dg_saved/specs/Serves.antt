-- One event on an opened volume, by its end.
use Rattle.std.specs.Prelude.{◌≡◌, Bool, true, false, List, ℕ, Option, Some, None}
use Rattle.dg_io.specs.Told.{Told, Took, TookPart}
use Rattle.dg_io.specs.declared.outside.Rack.{Ghosts}
use Rattle.dg_model.specs.States.{State}
use Rattle.dg_model.specs.Steps.{Step}
use Rattle.dg_model.specs.declared.events.Event.{Event}
use Rattle.dg_model.specs.declared.replies.Reply.{Reply}
use Rattle.dg_model.specs.declared.replies.Reply.TheVariants.{Refused as ReplyRefused, Unavailable as ReplyUnavailable}
use Rattle.dg_saved.specs.declared.ends.SavedEnd.{SavedEnd}
use Rattle.dg_saved.specs.declared.ends.SavedEnd.TheVariants.{Done, NoState, Refused, Unclean, WriteFault}
use Rattle.dg_volume.specs.Origins.{Origin, WasHeld}
use Rattle.dg_volume.specs.Volumes.{Known, StandsIn, any_phase}
use Rattle.dg_volume.specs.declared.phases.AnyPhase.{AnyPhase}
use Rattle.dg_volume.specs.declared.volumes.Volume.{Volume}
use Rattle.ufs_model.specs.declared.reads.PathRefusal.TheVariants.{Bad as RefusedBad, NotDirectory as RefusedNotDirectory, NotFound as RefusedNotFound, NotRegular as RefusedNotRegular}
use Rattle.ufs_path.specs.declared.faults.CatAnswer.{CatAnswer}
use Rattle.ufs_path.specs.declared.faults.CatAnswer.TheVariants.{Bad, Cut, Given, NotDirectory, NotFound, NotRegular, SinkFault, Unavailable}

-- the reply at a path, where nothing was handed on
abbrev pub reply_at : CatAnswer → Option Reply
reply_at (Given n) = None
reply_at NotFound = Some (ReplyRefused RefusedNotFound)
reply_at NotDirectory = Some (ReplyRefused RefusedNotDirectory)
reply_at (Bad bad) = Some (ReplyRefused (RefusedBad bad))
reply_at Unavailable = Some ReplyUnavailable
reply_at NotRegular = Some (ReplyRefused RefusedNotRegular)
reply_at (Cut n) = None
reply_at SinkFault = None

-- the line of a reply that gives nothing was printed, or a part of it, by the end
abbrev pub EndsNothing : List ℕ → Option (List ℕ) → Option (List ℕ) → SavedEnd → Type 0
EndsNothing line taken given Done = ⊥
EndsNothing line taken given Refused = Told (Took line) taken given
EndsNothing line taken given NoState = ⊥
EndsNothing line taken given Unclean = ⊥
EndsNothing line taken given WriteFault = Told (TookPart line) taken given

-- whichever state the volume was in, it made a step from it, to a state that it is in now
abbrev pub Steps : {R : Type 0} → Ghosts R → Volume AnyPhase R → Event → Reply → Volume AnyPhase R → Type 0
Steps {R = R} rack old event reply new = (origin : Origin R) (state : State) → StandsIn any_phase rack (WasHeld rack origin) old state →
    (next : State) × StandsIn any_phase rack (WasHeld rack origin) new next × Step (Known (WasHeld rack origin) rack new) state event reply next

-- the event was answered by a reply that gives what was asked for, or by one that doesn't, and its text was printed
pub record Served {R : Type 0} (rack : Ghosts R) (old : Volume AnyPhase R) (event : Event) (text : Reply → List ℕ) (gives : Reply → Bool) (kind : Bool)
    (taken given : Option (List ℕ)) (new : Volume AnyPhase R) : Type 0 where
  pub reply : Reply
  pub steps : Steps rack old event reply new
  pub kind_is : gives reply ≡ kind
  pub output : Told (Took (text reply)) taken given

-- a part of its text was printed
pub record ServedPart {R : Type 0} (rack : Ghosts R) (old : Volume AnyPhase R) (event : Event) (text : Reply → List ℕ) (taken given : Option (List ℕ))
    (new : Volume AnyPhase R) : Type 0 where
  pub reply : Reply
  pub steps : Steps rack old event reply new
  pub output : Told (TookPart (text reply)) taken given

-- by the end
abbrev pub EndsServed : {R : Type 0} → Ghosts R → Volume AnyPhase R → Event → (Reply → List ℕ) → (Reply → Bool) → Option (List ℕ) → Option (List ℕ)
    → Volume AnyPhase R → SavedEnd → Type 0
EndsServed rack old event text gives taken given new Done = Served rack old event text gives true taken given new
EndsServed rack old event text gives taken given new Refused = Served rack old event text gives false taken given new
EndsServed rack old event text gives taken given new NoState = ⊥
EndsServed rack old event text gives taken given new Unclean = ⊥
EndsServed rack old event text gives taken given new WriteFault = ServedPart rack old event text taken given new
