-- What a replay between objects in memory has done.
use Rattle.std.specs.Prelude.{◌≡◌, ◌++◌, ℕ, List, [], Option, Some}
use Rattle.dg_io.specs.Racks.{counts_in, member_in, told_in}
use Rattle.dg_io.specs.Sinks.{taken_in}
use Rattle.dg_io.specs.Sources.{left_in}
use Rattle.dg_model.specs.Causes.{NoneRose}
use Rattle.dg_model.specs.States.{Counts}
use Rattle.dg_model.specs.declared.events.Event.{Event}
use Rattle.dg_model.specs.declared.replies.Reply.{Reply}
use Rattle.dg_run.specs.Replays.{BrokeOff, IsCut, Ran, Replayed, Stopped}
use Rattle.dg_uses.specs.Promises.{IsToldAtEnd}
use Rattle.dg_uses.specs.declared.replays.Replay.{Replay}

-- A run of these events with these replies, in which no count of faults rose, and after which the rack still tells each member of the array.
pub record RanSmoothly (steady : Type 0) (tells : ℕ → Type 0) (events : List Event) (replies : List Reply) : Type 0 where
  pub before : Counts
  pub now : Counts
  pub images : ℕ → Option (List ℕ)
  pub bytes : ℕ → Option (List ℕ)
  pub ran : Ran before now images bytes steady tells events replies
  pub told : IsToldAtEnd tells ran
  pub none : NoneRose before.faults now.faults

-- nothing was counted yet
pub record AreNone (counts : Counts) : Type 0 where
  pub faults : (q : ℕ) → counts.faults q ≡ 0
  pub calls : counts.calls ≡ 0
  pub writes : counts.writes ≡ 0

-- no call on a member failed: each count of faults is 0 still
abbrev pub NeverFailed : Replay → Type 0
NeverFailed end = NoneRose (λ q. 0) (counts_in end.rack).faults

-- All lines of the text were replayed over a new rack.
pub record HasReplayed (text : List ℕ) (end : Replay) : Type 0 where
  pub before : Counts
  pub fresh : AreNone before
  pub images : ℕ → Option (List ℕ)
  pub replayed : Replayed before (counts_in end.rack) images (member_in end.rack) (Unit {0}) (told_in end.rack)
      (Some text) (Some (left_in end.source)) (Some []) (Some (taken_in end.sink))

-- the same up to a line that is refused
pub record HasStopped (text : List ℕ) (end : Replay) : Type 0 where
  pub before : Counts
  pub fresh : AreNone before
  pub images : ℕ → Option (List ℕ)
  pub stopped : Stopped before (counts_in end.rack) images (member_in end.rack) (Unit {0}) (told_in end.rack)
      (Some text) (Some (left_in end.source)) (Some []) (Some (taken_in end.sink))

-- the same up to a fault of the sink
pub record HasBeenCut (text : List ℕ) (end : Replay) : Type 0 where
  pub before : Counts
  pub fresh : AreNone before
  pub images : ℕ → Option (List ℕ)
  pub cut : IsCut before (counts_in end.rack) images (member_in end.rack) (Unit {0}) (told_in end.rack)
      (Some text) (Some (left_in end.source)) (Some []) (Some (taken_in end.sink))

-- the same up to a fault of the source
pub record HasBrokenOff (text : List ℕ) (end : Replay) : Type 0 where
  pub before : Counts
  pub fresh : AreNone before
  pub images : ℕ → Option (List ℕ)
  pub broke : BrokeOff before (counts_in end.rack) images (member_in end.rack) (Unit {0}) (told_in end.rack)
      (Some text) (Some (left_in end.source)) (Some []) (Some (taken_in end.sink))

-- a text begins with this part
pub record IsFront (part whole : List ℕ) : Type 0 where
  pub rest : List ℕ
  pub split : whole ≡ part ++ rest
