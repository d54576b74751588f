-- What opening the array of a rack gives, by its answer.
use Rattle.std.specs.Prelude.{◌≡◌, ◌⊎◌, ◌<◌, ◌==◌, ◌&&◌, ◌↔◌, ℕ, true, Option, Some, length}
use Rattle.dg_io.specs.Makes.{Makes}
use Rattle.dg_io.specs.RackCalls.{RackCall}
use Rattle.dg_io.specs.RackCalls.RackCall.{looks, blanks, calls, extends}
use Rattle.dg_io.specs.Told.{IsSame, StillTold, Told}
use Rattle.dg_io.specs.declared.outside.Rack.{Ghosts}
use Rattle.dg_label.specs.Labels.{IsLabeled, StandsLabeled}
use Rattle.dg_model.specs.Causes.{Rose}
use Rattle.dg_model.specs.Members.{is_good}
use Rattle.dg_model.specs.Openings.{Found, HasNoState, IsSource, IsUnclean, MayBeGood}
use Rattle.dg_model.specs.Saves.{CanBeSaved, Label, SavedState, body_of}
use Rattle.dg_model.specs.Seals.{LastLabel}
use Rattle.dg_model.specs.States.{CountsRise}
use Rattle.dg_model.specs.declared.members.MemberState.TheVariants.{Good, Out}
use Rattle.dg_open.specs.Founds.{AreRead}
use Rattle.dg_open.specs.declared.reopens.ReopenAnswer.{ReopenAnswer}
use Rattle.dg_open.specs.declared.reopens.ReopenAnswer.TheVariants.{NoState, Found as IsFound, Unclean}
use Rattle.dg_open.specs.declared.reopens.Reopened.{Reopened}
use Rattle.dg_save.specs.States.{state_of}
use Rattle.dg_store.specs.Stores.{IsSound, members_of, rack_of, shape_of, table_of}
use Rattle.dg_store.specs.declared.store.Store.{Store}

-- a call that looks for one of the members 0 to 31, or reads it
abbrev pub IsCallOfOpening : RackCall → Type 0
IsCallOfOpening (looks q) = q < 32
IsCallOfOpening (blanks q) = ⊥
IsCallOfOpening (calls q) = q < 32
IsCallOfOpening (extends q) = ⊥

-- What finding and reading members leaves of a rack: it is the same, no count fell, nothing was written, each member that tells its bytes has
-- those that it had, what tells its bytes did so before, and the rack is steady or not as it was. Only members 0 to 31 were called.
pub record LeavesRead {R : Type 0} (rack : Ghosts R) (before now : R) : Type 0 where
  pub rise : CountsRise (rack.counts before) (rack.counts now)
  pub writes : (rack.counts now).writes ≡ (rack.counts before).writes
  pub same : (q : ℕ) → Told IsSame (rack.bytes before q) (rack.bytes now q)
  pub tells : StillTold (rack.bytes before) (rack.bytes now)
  pub same_rack : rack.name now ≡ rack.name before
  pub steady_on : rack.steady before ↔ rack.steady now
  pub told_before : (q : ℕ) → rack.tells now q → rack.tells before q
  pub made : Makes rack IsCallOfOpening before now

-- what was taken of the members of a rack
abbrev pub AreReadOf : {R : Type 0} → Ghosts R → R → R → (ℕ → Option Found) → Type 0
AreReadOf rack before now taken = AreRead (rack.bytes now) (rack.counts before).faults (rack.counts now).faults taken

-- the label that an opened array has: that of its source, on each member that is good; that they have the body is known of the source alone
abbrev pub opened_label : ℕ → Label → SavedState → {R : Type 0} → Store R → LastLabel
opened_label source label saved store = record {
  format = label.format;
  sequence = label.sequence;
  sealed = true;
  shape = label.shape;
  body = body_of label.format saved;
  keepers = λ q. is_good (members_of store q);
  bodies = λ q. (q == source) && is_good (members_of store q);
  numbers = λ q. q;
}

-- An array was opened from what was taken: it has the sites that its source says; a member is good only where it has the same label and the
-- source says so, and a member of which that holds is out only where its count of faults rose, and always there. The label stands on each
-- good member; whether the body of the source stands beside it isn't looked at on the other ones. All boundaries that it names are in use.
pub record HasReopened {R : Type 0} (rack : Ghosts R) (before : R) (reopened : Reopened R) : Type 0 where
  pub taken : ℕ → Option Found
  pub source : ℕ
  pub label : Label
  pub read : AreReadOf rack before (rack_of reopened.store) taken
  pub is_source : IsSource taken source label (state_of reopened.saved)
  pub form : CanBeSaved (state_of reopened.saved)
  pub table : table_of reopened.store ≡ (state_of reopened.saved).table
  pub good : (q : ℕ) → members_of reopened.store q ≡ Good → MayBeGood taken label (state_of reopened.saved) q
  pub out : (q : ℕ) → (members_of reopened.store q ≡ Good)
      ⊎ ((members_of reopened.store q ≡ Out)
      × (MayBeGood taken label (state_of reopened.saved) q → Rose ((rack.counts before).faults q) ((rack.counts (rack_of reopened.store)).faults q)))
  pub fell : (q : ℕ) → (rack.counts before).faults q < (rack.counts (rack_of reopened.store)).faults q → members_of reopened.store q ≡ Out
  pub body : length (body_of label.format (state_of reopened.saved)) ≡ label.body
  pub sound : IsSound rack reopened.store
  pub labeled : IsLabeled rack (shape_of reopened.store) reopened.store (Some reopened.label)
  pub stands : StandsLabeled rack (shape_of reopened.store) reopened.store (Some reopened.label) (Some (opened_label source label (state_of reopened.saved) reopened.store))
  pub leaves : LeavesRead rack before (rack_of reopened.store)

-- no member that counts with the greatest number says a state, and none of them is opened
pub record FindsNoState {R : Type 0} (rack : Ghosts R) (before now : R) : Type 0 where
  pub taken : ℕ → Option Found
  pub read : AreReadOf rack before now taken
  pub none : HasNoState taken
  pub leaves : LeavesRead rack before now

-- one of them is opened
pub record FindsUnclean {R : Type 0} (rack : Ghosts R) (before now : R) : Type 0 where
  pub taken : ℕ → Option Found
  pub read : AreReadOf rack before now taken
  pub unclean : IsUnclean taken
  pub leaves : LeavesRead rack before now

abbrev pub AnswersReopen : {R : Type 0} → Ghosts R → R → ReopenAnswer R → Type 0
AnswersReopen rack before (IsFound reopened) = HasReopened rack before reopened
AnswersReopen rack before (NoState now) = FindsNoState rack before now
AnswersReopen rack before (Unclean now) = FindsUnclean rack before now
