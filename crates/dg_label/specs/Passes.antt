-- What calls beside the slots leave of an array: one on a member, and one on each good member in turn.
use Rattle.std.specs.Prelude.{◌≡◌, ◌≢◌, ◌≤◌, ◌<◌, ◌+◌, ℕ, true, List, IfSome, length}
use Rattle.dg_io.specs.RackCalls.{RackCall}
use Rattle.dg_io.specs.Told.{IsSame}
use Rattle.dg_io.specs.declared.outside.Rack.{Ghosts}
use Rattle.dg_label.specs.Seals.{KeepsArrayBy}
use Rattle.dg_model.specs.Members.{is_filling, is_good}
use Rattle.dg_model.specs.Saves.{body_place, member_length}
use Rattle.dg_model.specs.declared.members.MemberState.TheVariants.{Out}
use Rattle.dg_model.specs.declared.shapes.Shape.{Shape}
use Rattle.dg_store.specs.Leaves.{BytesChange, CallsAtMost, IsCallBelow, OnlyBytesOf}
use Rattle.dg_store.specs.Stores.{members_of, rack_of, shape_of}
use Rattle.dg_store.specs.declared.store.Store.{Store}

-- the bytes of each member that is refilled are as they were
abbrev pub FillingStay : {R : Type 0} → Ghosts R → Store R → Store R → Type 0
FillingStay rack old new = (q : ℕ) → is_filling (members_of new q) ≡ true → BytesChange rack old new q IsSame

-- One call was made on member q, if it was good, and none else. Where it is good still, its bytes changed so. `may` is which calls
-- are made of the rack.
pub record TouchesBy {R : Type 0} (rack : Ghosts R) (may : ℕ → RackCall → Type 0) (q : ℕ) (change : List ℕ → List ℕ → Type 0) (old new : Store R) : Type 0 where
  pub array : KeepsArrayBy rack may old new
  pub here : is_good (members_of new q) ≡ true → BytesChange rack old new q change
  pub filling : is_filling (members_of new q) ≡ true → BytesChange rack old new q IsSame
  pub others : OnlyBytesOf rack old new q
  pub stay_good : (p : ℕ) → p ≢ q → is_good (members_of old p) ≡ true → is_good (members_of new p) ≡ true
  pub most : CallsAtMost rack old new 1

-- So was one on each good member below this one. The bytes of those that are good still changed so, and of no others that aren't out.
pub record PassesBy {R : Type 0} (rack : Ghosts R) (may : ℕ → RackCall → Type 0) (first : ℕ) (change : ℕ → List ℕ → List ℕ → Type 0) (old new : Store R) : Type 0 where
  pub array : KeepsArrayBy rack may old new
  pub done : (q : ℕ) → q < first → is_good (members_of new q) ≡ true → BytesChange rack old new q (change q)
  pub rest : (q : ℕ) → first ≤ q → BytesChange rack old new q IsSame
  pub filling : FillingStay rack old new
  pub stay_good : (q : ℕ) → first ≤ q → is_good (members_of old q) ≡ true → is_good (members_of new q) ≡ true
  pub most : CallsAtMost rack old new first

-- the same where members are read and written alone
abbrev pub Touches : {R : Type 0} → Ghosts R → ℕ → (List ℕ → List ℕ → Type 0) → Store R → Store R → Type 0
Touches rack q change old new = TouchesBy rack IsCallBelow q change old new

abbrev pub Passes : {R : Type 0} → Ghosts R → ℕ → (ℕ → List ℕ → List ℕ → Type 0) → Store R → Store R → Type 0
Passes rack first change old new = PassesBy rack IsCallBelow first change old new

-- no call was made on member q: its state, its count of faults and its bytes are as they were
pub record IsUncalled {R : Type 0} (rack : Ghosts R) (q : ℕ) (old new : Store R) : Type 0 where
  pub state : members_of new q ≡ members_of old q
  pub faults : (rack.counts (rack_of new)).faults q ≡ (rack.counts (rack_of old)).faults q
  pub bytes : BytesChange rack old new q IsSame

-- each member that isn't out, and tells its bytes, is as long as format 2 says of an array of this shape
abbrev pub AreWhole : {R : Type 0} → Ghosts R → Shape → Store R → Type 0
AreWhole rack shape store =
    (q : ℕ) → members_of store q ≢ Out → IfSome (rack.bytes (rack_of store) q) (λ all. length all ≡ member_length 2 shape)

-- each good member that tells its bytes has room for so many behind its slots
abbrev pub HaveRoom : {R : Type 0} → Ghosts R → Store R → ℕ → Type 0
HaveRoom rack store size = (q : ℕ) → is_good (members_of store q) ≡ true
    → IfSome (rack.bytes (rack_of store) q) (λ all. body_place (shape_of store) + size ≤ length all)
