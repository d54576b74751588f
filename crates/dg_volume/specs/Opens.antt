-- What opening a saved array gives, by its answer.
use Rattle.std.specs.Prelude.{◌≡◌, ◌≢◌, ◌⊎◌, ◌+◌, ◌/◌, ◌<◌, ◌≤◌, ℕ, Bool, true, false, List, Option, Some, None}
use Rattle.dg_infer.specs.Meanings.{KeptInference}
use Rattle.dg_infer.specs.Meanings as inferences
use Rattle.dg_io.specs.Makes.{Makes}
use Rattle.dg_io.specs.Told.{IsSame, Told}
use Rattle.dg_io.specs.declared.outside.Rack.{Ghosts}
use Rattle.dg_model.specs.Marks.{AreLeft}
use Rattle.dg_model.specs.Members.{MembersFall}
use Rattle.dg_model.specs.Openings.{Found, IsSource, MayBeGood, Opens, Reduced, copies_after}
use Rattle.dg_model.specs.Placed.{IsPlaced}
use Rattle.dg_model.specs.Saves.{Label, SavedState}
use Rattle.dg_model.specs.States.{State, has_lost}
use Rattle.dg_model.specs.declared.homes.Home.{Home}
use Rattle.dg_model.specs.declared.members.MemberState.{MemberState}
use Rattle.dg_model.specs.declared.members.MemberState.TheVariants.{Good, Out}
use Rattle.dg_model.specs.declared.phases.Phase.TheVariants.{Settled as SettledPhase}
use Rattle.dg_model.specs.declared.wants.Want.{Want}
use Rattle.dg_open.specs.Founds.{AreRead}
use Rattle.dg_open.specs.Reopenings.{FindsNoState, FindsUnclean, IsCallOfOpening}
use Rattle.dg_open.specs.declared.reopens.Reopened.{Reopened}
use Rattle.dg_pair.specs.Calls.{KeepsBeside}
use Rattle.dg_save.specs.States as saves
use Rattle.dg_store.specs.Leaves.{RackStays}
use Rattle.dg_store.specs.Stores.{TellsAll}
use Rattle.dg_store.specs.Stores as stores
use Rattle.dg_store.specs.declared.store.Store.{Store}
use Rattle.dg_volume.specs.Origins.{WasHeld}
use Rattle.dg_volume.specs.Origins.Origin.{held}
use Rattle.dg_volume.specs.Phases.{phase_in}
use Rattle.dg_volume.specs.Planned.{AreWanted, FindsOn, HasReadArray}
use Rattle.dg_volume.specs.Volumes.{FitsArray, IsWell, Known, StandsIn, any_phase, given_of, members_of, rack_of, shape_of, table_of}
use Rattle.dg_volume.specs.declared.opens.OpenAnswer.{OpenAnswer}
use Rattle.dg_volume.specs.declared.opens.OpenAnswer.TheVariants.{NoState, Opened, Unclean}
use Rattle.dg_volume.specs.declared.phases.AnyPhase.{AnyPhase}
use Rattle.dg_volume.specs.declared.phases.AnyPhase.TheVariants.{Loose, Settled, Worn}
use Rattle.dg_volume.specs.declared.volumes.Volume.{Volume}
use Rattle.ufs_model.specs.Malformations.{IsFirstMalformation, IsSoundVolume}
use Rattle.ufs_model.specs.declared.malformations.BadKind.{BadKind}

-- ---- the phase

-- What is inferred of the volume of an array, by what it told before and tells now, and the pending blocks that are left of these.
pub record IsRestored {R : Type 0} (rack : Ghosts R) (old new : Store R) (pending : List Bool) (kept : KeptInference) : Type 0 where
  pub live : has_lost (stores.shape_of new) (stores.members_of new) ≡ false
  pub fits : FitsArray (stores.shape_of old) kept
  pub stands : TellsAll rack new → (V : List (List ℕ)) → stores.StandsFor rack old V → inferences.StandsFor kept V
  pub pending_are : (V : List (List ℕ))
      → AreLeft (TellsAll rack new × stores.StandsFor rack old V) (stores.shape_of old).l (stores.shape_of old).n V pending kept.pending

-- each block of a sound volume is in its place
pub record IsOrdered {R : Type 0} (rack : Ghosts R) (old new : Store R) (kept : KeptInference) (homes copies : List Home) : Type 0 where
  pub wants : List (Option Want)
  pub wanted : AreWanted (stores.table_of old) kept wants
  pub placed : IsPlaced wants (stores.table_of old) homes copies
  pub sound : FindsOn rack old new kept (λ V. IsSoundVolume (stores.shape_of old).l (stores.shape_of old).n V)

-- some block isn't in its place
pub record IsDisplaced {R : Type 0} (old : Store R) (kept : KeptInference) (homes copies : List Home) : Type 0 where
  pub wants : List (Option Want)
  pub wanted : AreWanted (stores.table_of old) kept wants
  pub displaced : IsPlaced wants (stores.table_of old) homes copies → ⊥

-- the volume isn't sound
pub record IsUnsound {R : Type 0} (rack : Ghosts R) (old new : Store R) (kept : KeptInference) : Type 0 where
  pub kind : BadKind
  pub number : ℕ
  pub first : FindsOn rack old new kept (λ V. IsFirstMalformation (stores.shape_of old).l (stores.shape_of old).n V kind number)

-- one of these; or a boundary was lost meanwhile
abbrev pub IsDisordered : {R : Type 0} → Ghosts R → Store R → Store R → KeptInference → List Home → List Home → Type 0
IsDisordered rack old new kept homes copies =
    IsDisplaced old kept homes copies ⊎ (IsUnsound rack old new kept ⊎ (has_lost (stores.shape_of new) (stores.members_of new) ≡ true))

abbrev pub AnswersOrder : {R : Type 0} → Ghosts R → Store R → Store R → KeptInference → List Home → List Home → Bool → Type 0
AnswersOrder rack old new kept homes copies true = IsOrdered rack old new kept homes copies
AnswersOrder rack old new kept homes copies false = IsDisordered rack old new kept homes copies

-- it was saved as settled, and still is in order; or it isn't in order, where it was saved as settled
abbrev pub AnswersStill : {R : Type 0} → Ghosts R → Store R → Store R → KeptInference → SavedState → Bool → Type 0
AnswersStill rack old new kept saved true = (saved.phase ≡ SettledPhase) × IsOrdered rack old new kept saved.homes saved.copies
AnswersStill rack old new kept saved false = saved.phase ≡ SettledPhase → IsDisordered rack old new kept saved.homes saved.copies

-- The phase of an array that was opened: worn where a boundary is lost; else settled just where the saved one was and is in order.
abbrev pub IsPhaseOf : {R : Type 0} → Ghosts R → Store R → Store R → SavedState → AnyPhase → Type 0
IsPhaseOf rack old new saved (Worn worn) = has_lost (stores.shape_of new) (stores.members_of new) ≡ true
IsPhaseOf rack old new saved (Loose loose) =
    IsRestored rack old new saved.pending loose.inference × AnswersStill rack old new loose.inference saved false
IsPhaseOf rack old new saved (Settled settled) =
    IsRestored rack old new saved.pending settled.inference × AnswersStill rack old new settled.inference saved true

-- ---- the volume

-- the volume that was made of what was found, and the files that were read last
pub record IsMadeOf {R : Type 0} (rack : Ghosts R) (reopened : Reopened R) (volume : Volume AnyPhase R) (hot : List ℕ) : Type 0 where
  pub reads : HasReadArray rack reopened.store volume.store
  pub levels : volume.levels.fragment ≡ (shape_of volume).l
  pub phase : IsPhaseOf rack reopened.store volume.store (saves.state_of reopened.saved) volume.phase
  pub pending : volume.pending.items ≡ reopened.saved.pending
  pub homes : volume.homes ≡ reopened.saved.homes
  pub copies : volume.copies ≡ copies_after (phase_in volume.phase) reopened.saved.copies
  pub long : volume.in_use.long ≡ (shape_of volume).b
  pub label : volume.label ≡ Some reopened.label
  pub given : volume.given ≡ None
  pub recent : hot ≡ reopened.saved.recent

-- the bytes that a member had before, where they are told now
abbrev pub had : Option (List ℕ) → Option (List ℕ) → Option (List ℕ)
had before None = None
had before (Some now) = before

-- a member stood at some moment of an opening
pub record StoodOnce {R : Type 0} (rack : Ghosts R) (before : R) (q : ℕ) : Type 0 where
  pub mid : R
  pub made : Makes rack IsCallOfOpening before mid
  pub stands : rack.stands mid q ≡ true

-- What was opened of a rack, with this beside the saved state: its members were read as they stood before; nothing was written, the bytes beside the slots stay, and only
-- members 0 to 31 were called; and this is the volume. `first` says what members did before blocks were read: one was good only where it
-- may be. Of each list of blocks the volume is in a state that the model opens, the content of which is known where these held the blocks
-- before. (Two members that were good at first may hold other blocks, and then no content is known.)
pub record HasOpenedBeside {R : Type 0} (rack : Ghosts R) (reduced : Option Reduced) (before : R) (volume : Volume AnyPhase R) (hot : List ℕ) : Type 0 where
  pub well : IsWell any_phase rack volume
  pub given_is : given_of volume ≡ None
  pub stays : RackStays rack before (rack_of volume)
  pub writes : (rack.counts (rack_of volume)).writes ≡ (rack.counts before).writes
  pub beside : KeepsBeside (shape_of volume).l ((shape_of volume).k + 1) (rack.bytes before) (rack.bytes (rack_of volume))
  pub made : Makes rack IsCallOfOpening before (rack_of volume)
  pub taken : ℕ → Option Found
  pub read : AreRead (λ q. had (rack.bytes before q) (rack.bytes (rack_of volume) q)) (rack.counts before).faults (rack.counts (rack_of volume)).faults taken
  pub source : ℕ
  pub label : Label
  pub saved : SavedState
  pub is_source : IsSource taken source label saved
  pub table : table_of volume ≡ saved.table
  pub first : ℕ → MemberState
  pub first_are : (q : ℕ) → ((first q ≡ Good) × MayBeGood taken label saved q) ⊎ (first q ≡ Out)
  pub stood : (q : ℕ) → first q ≢ Out → StoodOnce rack before q
  pub fell : (q : ℕ) → (rack.counts before).faults q < (rack.counts (rack_of volume)).faults q → members_of volume q ≡ Out
  pub others : (q : ℕ) → (shape_of volume).b ≤ q / 2 → Told IsSame (rack.bytes before q) (rack.bytes (rack_of volume) q)
  pub falls : MembersFall (rack.counts before).faults (rack.counts (rack_of volume)).faults first (members_of volume)
  pub states_are : (V : List (List ℕ)) →
      let P : Type 0 = WasHeld rack (held (record { table = table_of volume; members = first; bytes = rack.bytes before; blocks = V })) in
      (state : State) × (state.blocks ≡ V) × Opens (Known P rack volume) taken reduced (rack.counts before) state
      × StandsIn any_phase rack P volume state × (state.recent ≡ hot)

-- where nothing stands beside it
abbrev pub HasOpened : {R : Type 0} → Ghosts R → R → Volume AnyPhase R → List ℕ → Type 0
HasOpened rack before volume hot = HasOpenedBeside rack None before volume hot

-- by each answer
abbrev pub AnswersOpen : {R : Type 0} → Ghosts R → R → OpenAnswer R → Type 0
AnswersOpen rack before (Opened volume hot) = HasOpened rack before volume hot
AnswersOpen rack before (NoState now) = FindsNoState rack before now
AnswersOpen rack before (Unclean now) = FindsUnclean rack before now
