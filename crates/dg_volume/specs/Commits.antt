-- What a commit of a volume keeps, and what it leaves.
use Rattle.std.specs.Prelude.{◌≡◌, ◌⊎◌, ◌&&◌, ℕ, true, false, List, Option, ◌<◌, length, None}
use Rattle.std.specs.Option.{option_map}
use Rattle.dg_io.specs.Commits.{LeavesCommit, fell_in, is_marked}
use Rattle.dg_io.specs.declared.checkpoints.CommitAnswer.{CommitAnswer}
use Rattle.dg_io.specs.declared.outside.Rack.{Ghosts}
use Rattle.dg_label.specs.Seals.{HasGood, HasNoGood}
use Rattle.dg_model.specs.Changes.{PassesSave, Saves}
use Rattle.dg_model.specs.Marks.{marked}
use Rattle.dg_model.specs.Members.{is_filling, is_good, partner_of}
use Rattle.dg_model.specs.Saves.{member_length}
use Rattle.dg_model.specs.Seals.{LastLabel, label_after}
use Rattle.dg_model.specs.States.{State}
use Rattle.dg_model.specs.declared.events.Event.TheVariants.{Save}
use Rattle.dg_model.specs.declared.members.MemberState.{MemberState}
use Rattle.dg_model.specs.declared.members.MemberState.TheVariants.{Out}
use Rattle.dg_model.specs.declared.replies.Reply.{Reply}
use Rattle.dg_model.specs.declared.replies.Reply.TheVariants.{Lost as LostReply, NotSaved as NotSavedReply, Saved as SavedReply}
use Rattle.dg_regroup.specs.Extras.{extra_bytes}
use Rattle.dg_regroup.specs.declared.extras.Extra.{Extra}
use Rattle.dg_store.specs.Leaves.{IsCallOrExtendBelow}
use Rattle.dg_store.specs.Stores.{IsSound, IsWhole, KeepsBlocks}
use Rattle.dg_store.specs.Stores as stores
use Rattle.dg_store.specs.declared.store.Store.{Store}
use Rattle.dg_volume.specs.Copies.{StepsHot}
use Rattle.dg_volume.specs.Origins.{Origin, WasHeld}
use Rattle.dg_volume.specs.Volumes.{LeavesBy, StandsIn, cut_of, live_of, members_of, rack_of, shape_of}
use Rattle.dg_volume.specs.declared.commits.CheckpointAnswer.{CheckpointAnswer}
use Rattle.dg_volume.specs.declared.commits.CheckpointAnswer.TheVariants.{Lost, NotSaved, Saved}
use Rattle.dg_volume.specs.declared.phases.InPhase as phases
use Rattle.dg_volume.specs.declared.volumes.Volume.{Volume}

-- ---- what is kept

-- what stands beside the saved state: how long members are, the boundaries of the first line and those in use, and the cut blocks
abbrev pub extra_of : {S R : Type 0} → Volume S R → Extra
extra_of volume = record {
  length = member_length 2 (shape_of volume);
  boundaries = volume.in_use.boundaries;
  live = live_of volume;
  cut = marked (cut_of volume);
}

-- a bit for each good member, and no other
abbrev pub AreGoodBits : (ℕ → MemberState) → ℕ → Type 0
AreGoodBits members keep = (q : ℕ) → is_marked keep q ≡ is_good (members q)

-- ---- members that fall in it

-- The members with these bits are out, and with each of them one that was refilled from it; each other one does what it did.
pub record AreFailed (fell : ℕ) (old new : ℕ → MemberState) : Type 0 where
  pub out : (q : ℕ) → is_marked fell q ≡ true → new q ≡ Out
  pub others : (q : ℕ) → is_marked fell q ≡ false
      → (new q ≡ old q) ⊎ ((is_filling (old q) ≡ true) × (new q ≡ Out) × (is_marked fell (partner_of q) ≡ true))

-- What that leaves of an array: no call is made.
pub record FailsMarked {R : Type 0} (rack : Ghosts R) (fell : ℕ) (old new : Store R) : Type 0 where
  pub whole : IsWhole rack new
  pub rack_is : stores.rack_of new ≡ stores.rack_of old
  pub table : stores.table_of new ≡ stores.table_of old
  pub members : AreFailed fell (stores.members_of old) (stores.members_of new)
  pub blocks : KeepsBlocks rack old new

-- What a commit leaves of an array, with the rack's answer: the bytes of the good members and these extra ones are kept, and a member that fell in
-- it is out. `goes` is what a commit may leave of the rack beside its members.
pub record CommitsArray {R : Type 0} (rack : Ghosts R) (room : R → Option ℕ) (goes : R → R → Type 0) (extra : List ℕ) (answer : CommitAnswer) (old new : Store R) : Type 0 where
  pub keep : ℕ
  pub good : AreGoodBits (stores.members_of old) keep
  pub leaves : LeavesCommit rack room keep extra answer (stores.rack_of old) (stores.rack_of new)
  pub beside : goes (stores.rack_of old) (stores.rack_of new)
  pub sound : IsSound rack new
  pub table : stores.table_of new ≡ stores.table_of old
  pub members : AreFailed (fell_in keep answer) (stores.members_of old) (stores.members_of new)
  pub blocks : KeepsBlocks rack old new

-- ---- states

-- the state with what the members do now, the counts, and this label
abbrev pub committed : {S R : Type 0} → Ghosts R → Volume S R → State → Option LastLabel → State
committed rack new state label = record state { members = members_of new; counts = rack.counts (rack_of new); label = label }

-- the label on those that are good of the members that had it
abbrev pub left_on : (ℕ → MemberState) → LastLabel → LastLabel
left_on members last = record last { keepers = λ q. last.keepers q && is_good (members q); bodies = λ q. last.bodies q && is_good (members q) }

-- What a commit leaves of a volume, with the rack's answer. It is in the state in which it was, but for members that fell. Where that state was left by
-- a save, and some member is good, the save and the commit are one save.
pub record Commits {S R : Type 0} (phase : phases.Ghosts S) (rack : Ghosts R) (room : R → Option ℕ) (goes : R → R → Type 0) (old : Volume S R) (answer : CommitAnswer) (new : Volume S R) : Type 0 where
  pub array : CommitsArray rack room goes (extra_bytes (extra_of old)) answer old.store new.store
  pub states : (origin : Origin R) (state : State) → StandsIn phase rack (WasHeld rack origin) old state
      → StandsIn phase rack (WasHeld rack origin) new (committed rack new state (label_after false (members_of old) (members_of new) state.label))
  pub left : (origin : Origin R) (state : State) → StandsIn phase rack (WasHeld rack origin) old state
      → StandsIn phase rack (WasHeld rack origin) new (committed rack new state (option_map (left_on (members_of new)) state.label))
  pub passes : (origin : Origin R) (before state : State) → StandsIn phase rack (WasHeld rack origin) old state → state.table ≡ before.table
      → PassesSave before state → (label : Option LastLabel) → PassesSave before (committed rack new state label)
  pub saves : (origin : Origin R) (before state : State) (sequence : ℕ) → StandsIn phase rack (WasHeld rack origin) old state → Saves before sequence state
      → HasGood new.store → Saves before sequence (committed rack new state (option_map (left_on (members_of new)) state.label))

-- ---- a save that is kept

abbrev pub checkpoint_reply : CheckpointAnswer → Reply
checkpoint_reply (Saved sequence) = SavedReply sequence
checkpoint_reply (Lost s) = LostReply s
checkpoint_reply NotSaved = NotSavedReply

-- the rack keeps no checkpoint, and not all boundaries are in use
pub record CannotSave {S R : Type 0} (room : R → Option ℕ) (volume : Volume S R) : Type 0 where
  pub plain : room (rack_of volume) ≡ None
  pub reduced : length (live_of volume) < volume.in_use.boundaries

-- What was kept behind a save: the bytes of the members that were good then, and what stood beside the state before it. The boundaries in use are
-- those behind the save, which is a step of its own. `hot` are the files that were read last.
pub record KeepsSaved {S R : Type 0} (phase : phases.Ghosts S) (rack : Ghosts R) (room : R → Option ℕ) (goes : R → R → Type 0) (hot : List ℕ) (old new : Volume S R) : Type 0 where
  pub mid : Volume S R
  pub answer : CommitAnswer
  pub sequence : ℕ
  pub saved : LeavesBy phase phase rack IsCallOrExtendBelow old mid
  pub steps : StepsHot phase phase rack hot old Save (SavedReply sequence) mid
  pub commits : CommitsArray rack room goes (extra_bytes (extra_of old)) answer mid.store new.store
  pub live : live_of new ≡ live_of mid

-- By the answer. Where the save itself left no good member, nothing was kept anew.
abbrev pub KeepsBy : {S R : Type 0} → phases.Ghosts S → Ghosts R → (R → Option ℕ) → (R → R → Type 0) → List ℕ → Volume S R → Volume S R → CheckpointAnswer → Type 0
KeepsBy phase rack room goes hot old new (Saved sequence) = (kept : KeepsSaved phase rack room goes hot old new) × (kept.sequence ≡ sequence) × HasGood new.store
KeepsBy phase rack room goes hot old new (Lost s) =
    LeavesBy phase phase rack IsCallOrExtendBelow old new ⊎ (KeepsSaved phase rack room goes hot old new × HasNoGood new.store)
KeepsBy phase rack room goes hot old new NotSaved = new ≡ old
