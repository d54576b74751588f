-- What a call on one member leaves of it. The rules are this project's own.
use Rattle.std.specs.Prelude.{◌≡◌, ◌≢◌, ℕ, List, length, Option, Result, Ok, Err}
use Rattle.dg_model.specs.Members.{SlotOf}
use Rattle.dg_io.specs.Told.{Told, IsZeros, Patched, Torn, Extended, KeepsFront}
use Rattle.dg_pair.specs.declared.members.Member.{Member}
use Rattle.dg_pair.specs.declared.members.GoodCall.{GoodCall}
use Rattle.dg_pair.specs.declared.members.GoodCall.TheVariants.{Done, Fell}
use Rattle.dg_pair.specs.declared.members.FillCall.{FillCall}
use Rattle.dg_pair.specs.declared.members.FillCall.TheVariants.{Done as FillDone, Fell as FillFell}

-- the member has this number, these bytes of a slot and so many slots
pub record IsMember {S : Type 0} (number l slots : ℕ) (m : Member S) : Type 0 where
  pub number_is : m.number ≡ number
  pub l_is : m.l ≡ l
  pub slots_is : m.slots ≡ slots

-- the answer of the rack's call: a member that fell is one whose call failed
abbrev pub answer_of : GoodCall → Result (Unit {0}) (Unit {0})
answer_of (Done m) = Ok tt
answer_of (Fell m) = Err tt

abbrev pub fill_answer_of : FillCall → Result (Unit {0}) (Unit {0})
fill_answer_of (FillDone m) = Ok tt
fill_answer_of (FillFell m) = Err tt

-- the member that was called, good or out
abbrev pub GoodIs : ℕ → ℕ → ℕ → GoodCall → Type 0
GoodIs number l slots (Done m) = IsMember number l slots m
GoodIs number l slots (Fell m) = IsMember number l slots m

-- a call that was done leaves these bytes in the slot
abbrev pub GotSlot : ℕ → ℕ → List ℕ → Option (List ℕ) → GoodCall → Type 0
GotSlot l slot v told (Done m) = SlotOf l slot v told
GotSlot l slot v told (Fell m) = Unit {0}

-- a blank that was done leaves zeros
abbrev pub BlankIs : ℕ → Option (List ℕ) → Option (List ℕ) → GoodCall → Type 0
BlankIs size old new (Done m) = Told (IsZeros size) old new
BlankIs size old new (Fell m) = Unit {0}

-- a write at a place that was done leaves the bytes there, one that failed any bytes
abbrev pub NotedIs : ℕ → List ℕ → Option (List ℕ) → Option (List ℕ) → GoodCall → Type 0
NotedIs place piece old new (Done m) = Told (Patched place piece) old new
NotedIs place piece old new (Fell m) = Told (Torn place (length piece)) old new

-- an extension that was done leaves zeros at the end, one that failed any end
abbrev pub ExtendedIs : ℕ → Option (List ℕ) → Option (List ℕ) → GoodCall → Type 0
ExtendedIs size old new (Done m) = Told (Extended size) old new
ExtendedIs size old new (Fell m) = Told KeepsFront old new

-- the same for a member that is being refilled
abbrev pub FillIs : ℕ → ℕ → ℕ → ℕ → FillCall → Type 0
FillIs number l slots have (FillDone m) = IsMember number l slots m × (m.state.have ≡ have)
FillIs number l slots have (FillFell m) = IsMember number l slots m

abbrev pub TookSlot : ℕ → ℕ → List ℕ → Option (List ℕ) → FillCall → Type 0
TookSlot l slot v told (FillDone m) = SlotOf l slot v told
TookSlot l slot v told (FillFell m) = Unit {0}

-- each other slot has what it had
abbrev pub KeepsSlots : ℕ → ℕ → Option (List ℕ) → Option (List ℕ) → Type 0
KeepsSlots l slot old new = (x : ℕ) (v : List ℕ) → x ≢ slot → SlotOf l x v old → SlotOf l x v new
