-- What going on without lost boundaries leaves of a volume.
use Rattle.std.specs.Prelude.{◌≡◌, ◌⊎◌, ◌<◌, ◌≤◌, ◌+◌, ℕ, Bool, true, List, [], Some, length, map}
use Rattle.dg_io.specs.Reduced.{LeavesLeft, places_left}
use Rattle.dg_io.specs.declared.outside.Rack.{Ghosts}
use Rattle.dg_label.specs.Lefts.{KeepsLeft as KeepsLabelLeft}
use Rattle.dg_model.specs.Lives.{boundary_at}
use Rattle.dg_model.specs.Members.{MembersFall, is_lost}
use Rattle.dg_model.specs.Moves.{count_upto}
use Rattle.dg_model.specs.Regroups.{homes_left}
use Rattle.dg_model.specs.Sites.{is_gone}
use Rattle.dg_model.specs.States.{State, has_lost}
use Rattle.dg_model.specs.Steps.{Step}
use Rattle.dg_model.specs.Tables.{IsTable}
use Rattle.dg_model.specs.declared.events.Event.TheVariants.{Regroup}
use Rattle.dg_model.specs.declared.homes.Home.{Home}
use Rattle.dg_model.specs.declared.phases.Phase.TheVariants.{Loose as LoosePhase}
use Rattle.dg_model.specs.declared.replies.Reply.TheVariants.{Regrouped as RegroupedReply, TooFew as TooFewReply, Whole as WholeReply}
use Rattle.dg_regroup.specs.Cuts.{IsTooFew}
use Rattle.dg_store.specs.Leaves.{Stays}
use Rattle.dg_store.specs.Reduced.{IsReduced, blocks_left, left_in, reduced}
use Rattle.dg_store.specs.Stores.{TellsAll, lost_bits}
use Rattle.dg_store.specs.Stores as stores
use Rattle.dg_store.specs.declared.store.Store.{Store}
use Rattle.dg_volume.specs.Left.{marked_too, unmarked}
use Rattle.dg_volume.specs.Opens.{IsRestored}
use Rattle.dg_volume.specs.Origins.{Origin, WasHeld}
use Rattle.dg_volume.specs.Origins.Origin.{told}
use Rattle.dg_volume.specs.Phases.{kept_in, phase_in}
use Rattle.dg_volume.specs.Settles.{GoesBy, KeepsArray}
use Rattle.dg_volume.specs.Volumes.{IsWell, Known, Leaves, StandsIn, Tells, any_phase, cut_of, given_of, line_of, live_of, marks_of, members_of, rack_of, shape_of, table_of}
use Rattle.dg_volume.specs.declared.phases.AnyPhase.{AnyPhase}
use Rattle.dg_volume.specs.declared.phases.AnyPhase.TheVariants.{Loose, Settled, Worn}
use Rattle.dg_volume.specs.declared.phases.InPhase as phases
use Rattle.dg_volume.specs.declared.regroups.Remains.{Remains}
use Rattle.dg_volume.specs.declared.regroups.RegroupAnswer.{RegroupAnswer}
use Rattle.dg_volume.specs.declared.regroups.RegroupAnswer.TheVariants.{Regrouped, TooFew, Whole}
use Rattle.dg_volume.specs.declared.volumes.Volume.{Volume}

-- ---- what any call leaves, also one that takes boundaries out of use

-- A volume of the same first line, whose members are as long, with which all is well. No count of all calls fell.
pub record GoesOn {S T R : Type 0} (to : phases.Ghosts T) (rack : Ghosts R) (old : Volume S R) (new : Volume T R) : Type 0 where
  pub well : IsWell to rack new
  pub boundaries : new.in_use.boundaries ≡ old.in_use.boundaries
  pub line : line_of new ≡ line_of old
  pub calls : (rack.counts (rack_of old)).calls ≤ (rack.counts (rack_of new)).calls
  pub writes : (rack.counts (rack_of old)).writes ≤ (rack.counts (rack_of new)).writes

-- ---- what is left

-- A rack with this name has as many boundaries as the array at least.
abbrev pub HasBoundaries : {S R : Type 0} → Ghosts R → (R → ℕ) → Volume S R → Type 0
HasBoundaries {R = R} rack boundaries volume = (r : R) → rack.name r ≡ rack.name (rack_of volume) → (shape_of volume).b ≤ boundaries r

-- what is left of an array is too few
abbrev pub HasTooFew : {R : Type 0} → Store R → Type 0
HasTooFew store = IsTooFew (left_in store) (stores.shape_of store)

-- what is left of an array, with these homes and copies and these boundaries in use
pub record AreRemains {R : Type 0} (store : Store R) (homes copies : List Home) (live : List ℕ) (remains : Remains) : Type 0 where
  pub enough : HasTooFew store → ⊥
  pub map_is : remains.map ≡ reduced store
  pub is_table : IsTable remains.map
  pub homes_are : remains.homes ≡ homes_left (left_in store) copies homes
  pub live_is : remains.live.items ≡ map (boundary_at live) (left_in store)
  pub bytes : remains.blank.l ≡ (stores.shape_of store).l
  pub number : remains.blank.n ≡ (stores.shape_of store).n
  pub marks : length remains.blank.pending ≡ (stores.shape_of store).n

-- whether a block is gone
abbrev pub gone_of : {S R : Type 0} → Volume S R → ℕ → Bool
gone_of volume = is_gone (table_of volume) (members_of volume)

-- The bits of the lost boundaries leave those that aren't lost.
abbrev pub AreBitsLeft : {R : Type 0} → Store R → Type 0
AreBitsLeft store = places_left (lost_bits (stores.members_of store) (stores.shape_of store).b) (stores.shape_of store).b ≡ left_in store

-- A volume without the lost boundaries: the blocks that stood on them alone are cut, and no more pending. It is loose, by what remains.
pub record IsTakenOut {R : Type 0} (rack : Ghosts R) (boundaries : R → ℕ) (dropped : R → ℕ → R → Type 0) (remains : Remains) (old new : Volume AnyPhase R) : Type 0 where
  pub array : IsReduced rack boundaries dropped old.store new.store
  pub bits : AreBitsLeft old.store
  pub phase_is : phase_in new.phase ≡ LoosePhase
  pub kept_is : kept_in new.phase ≡ Some remains.blank
  pub pending_is : new.pending.items ≡ unmarked (gone_of old) (marks_of any_phase old)
  pub boundaries_are : new.in_use.boundaries ≡ old.in_use.boundaries
  pub long_is : new.in_use.long ≡ old.in_use.long
  pub live_is : live_of new ≡ map (boundary_at (live_of old)) (left_in old.store)
  pub cut_is : cut_of new ≡ marked_too (gone_of old) (cut_of old)
  pub homes_are : new.homes ≡ homes_left (left_in old.store) old.copies old.homes
  pub copies_are : new.copies ≡ []
  pub levels_are : new.levels.fragment ≡ old.levels.fragment
  pub given_is : new.given ≡ old.given
  pub label_is : KeepsLabelLeft (left_in old.store) old.label new.label

-- how many boundaries are lost, and how many blocks are gone by that
abbrev pub lost_count : {S R : Type 0} → Volume S R → ℕ
lost_count volume = count_upto (shape_of volume).b (is_lost (members_of volume))

abbrev pub gone_count : {S R : Type 0} → Volume S R → ℕ
gone_count volume = count_upto (shape_of volume).n (gone_of volume)

-- the phase of what is left: worn where a boundary is lost meanwhile, and else loose
abbrev pub IsPhaseLeft : {R : Type 0} → Ghosts R → Store R → Store R → List Bool → AnyPhase → Type 0
IsPhaseLeft rack old new pending (Worn worn) = has_lost (stores.shape_of new) (stores.members_of new) ≡ true
IsPhaseLeft rack old new pending (Loose loose) = IsRestored rack old new pending loose.inference
IsPhaseLeft rack old new pending (Settled settled) = ⊥

-- ---- the answers

-- What became of an array of which boundaries were taken out of use: calls that opened a seal, in which a member went out only by a fault of its
-- own, then the same rack under the new places, and then calls that read what is left.
pub record TakesOut {R : Type 0} (rack : Ghosts R) (boundaries : R → ℕ) (dropped : R → ℕ → R → Type 0) (old new : Store R) : Type 0 where
  pub mid : Store R
  pub left : Store R
  pub opened : Stays rack old mid
  pub falls : MembersFall (rack.counts (stores.rack_of old)).faults (rack.counts (stores.rack_of mid)).faults (stores.members_of old) (stores.members_of mid)
  pub leaves : LeavesLeft rack (left_in mid) (stores.rack_of mid) (stores.rack_of left)
  pub rest : boundaries (stores.rack_of left) + (stores.shape_of mid).b ≡ boundaries (stores.rack_of mid) + (stores.shape_of left).b
  pub below : dropped (stores.rack_of mid) (lost_bits (stores.members_of mid) (stores.shape_of mid).b) (stores.rack_of left)
  pub bits : AreBitsLeft mid
  pub fewer : length (left_in mid) < (stores.shape_of mid).b
  pub read : Stays rack left new

-- What the content of later steps rests on: what it rested on before, and that all members of the array told their bytes, those of the boundaries
-- that were taken out of use too.
abbrev pub told_in : {R : Type 0} → Store R → Origin R → Origin R
told_in mid origin = told (stores.shape_of mid).b (stores.rack_of mid) origin

-- Boundaries were taken out of use, and blocks with them. Whichever state the volume was in, it made the step of that.
pub record IsRegrouped {R : Type 0} (rack : Ghosts R) (boundaries : R → ℕ) (dropped : R → ℕ → R → Type 0) (r c : ℕ) (old new : Volume AnyPhase R) : Type 0 where
  pub out : TakesOut rack boundaries dropped old.store new.store
  pub live_is : live_of new ≡ map (boundary_at (live_of old)) (left_in out.mid)
  pub given_is : given_of new ≡ given_of old
  pub steps : (origin : Origin R) (state : State) → StandsIn any_phase rack (WasHeld rack origin) old state →
      (next : State) × StandsIn any_phase rack (WasHeld rack (told_in out.mid origin)) new next
      × Step (Known (WasHeld rack (told_in out.mid origin)) rack new) state Regroup (RegroupedReply r c) next × (next.recent ≡ state.recent)

-- by each answer
abbrev pub AnswersRegroup : {R : Type 0} → Ghosts R → (R → ℕ) → (R → ℕ → R → Type 0) → Volume AnyPhase R → Volume AnyPhase R → RegroupAnswer → Type 0
AnswersRegroup rack boundaries dropped old new Whole = GoesBy any_phase any_phase rack old Regroup WholeReply new
AnswersRegroup rack boundaries dropped old new TooFew = GoesBy any_phase any_phase rack old Regroup TooFewReply new
AnswersRegroup rack boundaries dropped old new (Regrouped r c) = IsRegrouped rack boundaries dropped r c old new

-- The array stands for what it stood for, but that the blocks which were cut are zeros, where each member told its bytes.
pub record KeepsLeft {R : Type 0} (rack : Ghosts R) (boundaries : R → ℕ) (dropped : R → ℕ → R → Type 0) (old new : Volume AnyPhase R) : Type 0 where
  pub out : TakesOut rack boundaries dropped old.store new.store
  pub live_is : live_of new ≡ map (boundary_at (live_of old)) (left_in out.mid)
  pub stands : TellsAll rack out.mid → Tells rack new → (V : List (List ℕ)) → stores.StandsFor rack old.store V
      → stores.StandsFor rack new.store (blocks_left (stores.table_of out.mid) (stores.members_of out.mid) V)

-- after want of memory: the array is as it was, or boundaries were taken out of use
abbrev pub KeepsOrLeaves : {R : Type 0} → Ghosts R → (R → ℕ) → (R → ℕ → R → Type 0) → Volume AnyPhase R → Volume AnyPhase R → Type 0
KeepsOrLeaves rack boundaries dropped old new =
    (Leaves any_phase any_phase rack old new × KeepsArray rack old new) ⊎ KeepsLeft rack boundaries dropped old new
