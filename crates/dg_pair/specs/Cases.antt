-- The same words by cases on the boundary, for the functions that work on one case.
use Rattle.std.specs.Prelude.{◌≡◌, ◌≢◌, ◌⊎◌, ◌↔◌, ◌<◌, if◌then◌else◌, nat_lt, ℕ, Bool, true, List, Option}
use Rattle.dg_model.specs.Members.{HasRoom, SlotOf}
use Rattle.dg_model.specs.States.{CountsRise}
use Rattle.dg_io.specs.Told.{Told, IsSame, StillTold}
use Rattle.dg_io.specs.declared.outside.Rack.{Ghosts}
use Rattle.dg_pair.specs.Boundaries.{number_of, size_of, slots_of, IsWell}
use Rattle.dg_pair.specs.declared.boundaries.Boundary.{Boundary}
use Rattle.dg_pair.specs.declared.boundaries.Boundary.TheVariants.{Both, Half, Fill, Lost}

abbrev pub HasNone : Boundary → Type 0
HasNone (Both a b) = ⊥
HasNone (Half a b) = ⊥
HasNone (Fill a b) = ⊥
HasNone (Lost a b) = Unit {0}

-- each member that isn't out is long enough
abbrev pub Fits : Boundary → (ℕ → Option (List ℕ)) → Type 0
Fits (Both a b) bytes = HasRoom a.l a.slots (bytes a.number) × HasRoom a.l a.slots (bytes b.number)
Fits (Half a b) bytes = HasRoom a.l a.slots (bytes a.number)
Fits (Fill a b) bytes = HasRoom a.l a.slots (bytes a.number) × HasRoom a.l a.slots (bytes b.number)
Fits (Lost a b) bytes = Unit {0}

-- this is said of each member that isn't out
abbrev pub EachIn : Boundary → (ℕ → Type 0) → Type 0
EachIn (Both a b) such = such a.number × such b.number
EachIn (Half a b) such = such a.number
EachIn (Fill a b) such = such a.number × such b.number
EachIn (Lost a b) such = Unit {0}

-- each such member stands
abbrev pub Stand : Boundary → (ℕ → Bool) → Type 0
Stand boundary stands = EachIn boundary (λ q. stands q ≡ true)

-- it is none of its two members
abbrev pub IsOther : Boundary → ℕ → Type 0
IsOther (Both a b) q = (q ≢ a.number) × (q ≢ b.number)
IsOther (Half a b) q = (q ≢ a.number) × (q ≢ b.number)
IsOther (Fill a b) q = (q ≢ a.number) × (q ≢ b.number)
IsOther (Lost a b) q = (q ≢ a.number) × (q ≢ b.number)

-- what a call over a rack leaves, by cases
pub record LeavesCase {S : Type 0} (rack : Ghosts S) (old new : Boundary) (before now : S) : Type 0 where
  pub well : IsWell new
  pub number : number_of new ≡ number_of old
  pub size : size_of new ≡ size_of old
  pub slots : slots_of new ≡ slots_of old
  pub stand : Stand new (rack.stands now)
  pub other_bytes : (q : ℕ) → IsOther old q → Told IsSame (rack.bytes before q) (rack.bytes now q)
  pub other_faults : (q : ℕ) → IsOther old q → (rack.counts now).faults q ≡ (rack.counts before).faults q
  pub others_stand : (q : ℕ) → IsOther old q → rack.stands before q ≡ true → rack.stands now q ≡ true
  -- no call on a member that isn't out has failed
  pub unfailed : EachIn new (λ q. (rack.counts now).faults q ≡ (rack.counts before).faults q)
  pub rise : CountsRise (rack.counts before) (rack.counts now)
  pub tells : StillTold (rack.bytes before) (rack.bytes now)
  pub same_rack : rack.name now ≡ rack.name before
  pub steady_on : rack.steady before ↔ rack.steady now

-- these are the bytes of the slot on a good member, where it tells them
abbrev pub ReadsGood : Boundary → ℕ → ℕ → List ℕ → (ℕ → Option (List ℕ)) → Type 0
ReadsGood (Both a b) l slot v bytes = SlotOf l slot v (bytes a.number) ⊎ SlotOf l slot v (bytes b.number)
ReadsGood (Half a b) l slot v bytes = SlotOf l slot v (bytes a.number)
ReadsGood (Fill a b) l slot v bytes = SlotOf l slot v (bytes a.number)
ReadsGood (Lost a b) l slot v bytes = ⊥

-- these are the bytes of the slot on each member that serves it
abbrev pub SlotIs : Boundary → ℕ → ℕ → List ℕ → (ℕ → Option (List ℕ)) → Type 0
SlotIs (Both a b) l slot v bytes = SlotOf l slot v (bytes a.number) × SlotOf l slot v (bytes b.number)
SlotIs (Half a b) l slot v bytes = SlotOf l slot v (bytes a.number)
SlotIs (Fill a b) l slot v bytes = SlotOf l slot v (bytes a.number) × (slot < b.state.have → SlotOf l slot v (bytes b.number))
SlotIs (Lost a b) l slot v bytes = Unit {0}

-- each slot has what it had
abbrev pub KeepsAll : ℕ → Boundary → (ℕ → Option (List ℕ)) → Boundary → (ℕ → Option (List ℕ)) → Type 0
KeepsAll l old before new now = (x : ℕ) (v : List ℕ) → SlotIs old l x v before → SlotIs new l x v now

-- each other slot has what it had
abbrev pub KeepsOthers : ℕ → ℕ → Boundary → (ℕ → Option (List ℕ)) → Boundary → (ℕ → Option (List ℕ)) → Type 0
KeepsOthers l slot old before new now = (x : ℕ) (v : List ℕ) → x ≢ slot → SlotIs old l x v before → SlotIs new l x v now

-- how many of its members are good
abbrev pub goods_of : Boundary → ℕ
goods_of (Both a b) = 2
goods_of (Half a b) = 1
goods_of (Fill a b) = 1
goods_of (Lost a b) = 0

-- how many of its members serve this slot
abbrev pub servers_of : Boundary → ℕ → ℕ
servers_of (Both a b) slot = 2
servers_of (Half a b) slot = 1
servers_of (Fill a b) slot = if nat_lt slot b.state.have then 2 else 1
servers_of (Lost a b) slot = 0
