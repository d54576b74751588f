-- What is planned and checked over an array, and what reads and moves leave of it.
use Rattle.std.specs.Prelude.{◌≡◌, ℕ, List, Option, Result, Ok, Err, false, IfSome, is_some}
use Rattle.dg_infer.specs.Meanings.{KeptInference}
use Rattle.dg_infer.specs.Meanings as inferences
use Rattle.dg_infer.specs.Wants.{IsWantBy}
use Rattle.dg_io.specs.declared.outside.Rack.{Ghosts}
use Rattle.dg_model.specs.Members.{MembersFall}
use Rattle.dg_model.specs.Plans.{plan}
use Rattle.dg_model.specs.Seals.{LastLabel}
use Rattle.dg_model.specs.States.{IsLeastLost, State, has_lost}
use Rattle.dg_model.specs.Steps.{Step}
use Rattle.dg_model.specs.Sites.{has_site}
use Rattle.dg_model.specs.Tables.{Table, sites_in}
use Rattle.dg_model.specs.Wants.{AreParents, AreWants, FitWants, IsWant}
use Rattle.dg_model.specs.declared.events.Event.TheVariants.{Settle}
use Rattle.dg_model.specs.declared.homes.Home.{Home}
use Rattle.dg_model.specs.declared.parents.Parent.{Parent}
use Rattle.dg_model.specs.declared.phases.Phase.TheVariants.{Settled as SettledPhase}
use Rattle.dg_model.specs.declared.replies.Reply.TheVariants.{Settled as SettledReply}
use Rattle.dg_model.specs.declared.wants.NoRoom.{NoRoom}
use Rattle.dg_model.specs.declared.wants.Want.{Want}
use Rattle.dg_plan.specs.Planned.{IsPlanned, KeepsRules}
use Rattle.dg_plan.specs.declared.target_lists.Targets.{Targets}
use Rattle.dg_store.specs.Leaves as arrays
use Rattle.dg_store.specs.Stores.{IsSound, KeepsBlocks, TellsAll, members_of, rack_of, shape_of, table_of}
use Rattle.dg_store.specs.Stores as stores
use Rattle.dg_store.specs.Views.{ReadsOn}
use Rattle.dg_store.specs.declared.store.Store.{Store}
use Rattle.dg_volume.specs.Faults.{OutsStay, TellsFaults}
use Rattle.dg_volume.specs.Origins.{Origin, WasHeld}
use Rattle.dg_volume.specs.Volumes.{AreWantsBy, IsInPlace, Known, StandsFor, StandsUnder, Tells, state_of}
use Rattle.dg_volume.specs.Volumes as volumes
use Rattle.dg_volume.specs.declared.phases.InPhase as phases
use Rattle.dg_volume.specs.declared.plans.PlanAnswer.{PlanAnswer}
use Rattle.dg_volume.specs.declared.plans.PlanAnswer.TheVariants.{Found, Lost as PlanLost, NoSpace as PlanNoSpace}
use Rattle.dg_volume.specs.declared.settles.Unsettled.{Unsettled}
use Rattle.dg_volume.specs.declared.settles.Unsettled.TheVariants.{Lost, Malformed, NoSpace}
use Rattle.dg_volume.specs.declared.volumes.Volume.{Volume}
use Rattle.ufs_model.specs.Malformations.{IsFirstMalformation, IsSoundVolume}

-- ---- the array

-- what reads left of it
pub record HasReadArray {R : Type 0} (rack : Ghosts R) (old new : Store R) : Type 0 where
  pub sound : IsSound rack new
  pub reads : ReadsOn rack old new
  pub stands : KeepsBlocks rack old new

-- What reads and moves left of it, where a seal may have been opened: members only fell, and each block keeps its value, where the members
-- tell their bytes in the end.
pub record HasMovedArray {R : Type 0} (rack : Ghosts R) (old new : Store R) : Type 0 where
  pub sound : IsSound rack new
  pub stays : arrays.Stays rack old new
  pub falls : MembersFall (rack.counts (rack_of old)).faults (rack.counts (rack_of new)).faults (members_of old) (members_of new)
  pub faults : TellsFaults rack old new
  pub outs : OutsStay rack old new
  pub stands : TellsAll rack new → KeepsBlocks rack old new

-- ---- the plan

-- what block b is to the plan: nothing where it isn't written
pub record IsWantOf (table : Table) (kept : KeptInference) (b : ℕ) (found : Option Want) : Type 0 where
  pub written : is_some found ≡ has_site (sites_in table b)
  pub is : (V : List (List ℕ)) → inferences.StandsFor kept V → IfSome found (IsWant kept.l kept.n V b)
  pub by : IfSome found (IsWantBy kept b)

-- what each written block is to the plan, of each volume for which the inference stands
pub record AreWanted (table : Table) (kept : KeptInference) (wants : List (Option Want)) : Type 0 where
  pub fit : FitWants table wants
  pub are : (V : List (List ℕ)) → inferences.StandsFor kept V → AreWants kept.l kept.n V wants
  pub by : AreWantsBy kept wants

-- the directories of files, on each volume for which the array stood, where it tells its bytes now
abbrev pub AreKnown : {R : Type 0} → Ghosts R → Store R → Store R → List Parent → Type 0
AreKnown rack old new parents =
    TellsAll rack new → (V : List (List ℕ)) → stores.StandsFor rack old V → AreParents (shape_of old).l (shape_of old).n V parents

-- These are the targets of the plan, and no boundary is lost.
pub record HasPlan {R : Type 0} (rack : Ghosts R) (old new : Store R) (kept : KeptInference) (homes : List Home) (targets : Targets) : Type 0 where
  pub wants : List (Option Want)
  pub parents : List Parent
  pub wanted : AreWanted (table_of old) kept wants
  pub known : AreKnown rack old new parents
  pub planned : IsPlanned (shape_of old) wants parents homes targets
  pub rules : KeepsRules (shape_of old) wants targets
  pub live : has_lost (shape_of new) (members_of new) ≡ false

-- The plan finds no room for this.
pub record HasNoPlan {R : Type 0} (rack : Ghosts R) (old new : Store R) (kept : KeptInference) (homes : List Home) (bad : NoRoom) : Type 0 where
  pub wants : List (Option Want)
  pub parents : List Parent
  pub wanted : AreWanted (table_of old) kept wants
  pub known : AreKnown rack old new parents
  pub is : plan (shape_of old) wants parents homes ≡ Err bad

-- boundary s is the least one that is lost
abbrev pub IsLeastLostOf : {R : Type 0} → Store R → ℕ → Type 0
IsLeastLostOf store s = IsLeastLost (shape_of store) (members_of store) s

-- by the answer
abbrev pub AnswersPlan : {R : Type 0} → Ghosts R → Store R → Store R → KeptInference → List Home → PlanAnswer → Type 0
AnswersPlan rack old new kept homes (Found targets) = HasPlan rack old new kept homes targets
AnswersPlan rack old new kept homes (PlanNoSpace bad) = HasNoPlan rack old new kept homes bad
AnswersPlan rack old new kept homes (PlanLost s) = IsLeastLostOf new s

-- ---- the check

-- what is found of each volume for which the array and the inference stood, where the array tells its bytes now
abbrev pub FindsOn : {R : Type 0} → Ghosts R → Store R → Store R → KeptInference → (List (List ℕ) → Type 0) → Type 0
FindsOn rack old new kept finds =
    TellsAll rack new → (V : List (List ℕ)) → stores.StandsFor rack old V → inferences.StandsFor kept V → finds V

abbrev pub AnswersCheck : {R : Type 0} → Ghosts R → Store R → Store R → KeptInference → Result (Unit {0}) Unsettled → Type 0
AnswersCheck rack old new kept (Ok done) = FindsOn rack old new kept (λ V. IsSoundVolume (shape_of old).l (shape_of old).n V)
AnswersCheck rack old new kept (Err (Lost s)) = IsLeastLostOf new s
AnswersCheck rack old new kept (Err (Malformed kind n)) = FindsOn rack old new kept (λ V. IsFirstMalformation (shape_of old).l (shape_of old).n V kind n)
AnswersCheck rack old new kept (Err (NoSpace bad)) = ⊥

-- ---- blocks in their places

-- Each block is in its place, and the homes are the plan's. The volume makes the step of settling once its phase is Settled.
pub record IsPutInPlace {S R : Type 0} (phase : phases.Ghosts S) (rack : Ghosts R) (old new : Volume S R) : Type 0 where
  pub phase_is : new.phase ≡ old.phase
  pub pending_is : new.pending ≡ old.pending
  pub placed : IsInPlace (volumes.table_of new) (phase.kept old.phase) new.homes new.copies
  pub stands : (V : List (List ℕ)) → Tells rack new → StandsFor phase rack old V → StandsFor phase rack new V
  pub steps : (origin : Origin R) (rest : State) (V : List (List ℕ)) → StandsUnder rack old rest.label → (Known (WasHeld rack origin) rack old → StandsFor phase rack old V)
      → (last : Option LastLabel) × StandsUnder rack new last
      × Step (Known (WasHeld rack origin) rack new) (state_of phase rack old rest V) Settle SettledReply
      (record (state_of phase rack new rest V) { phase = SettledPhase; label = last })
