-- A boundary of two members, as the layers above see it. The rules are this project's own.
use Rattle.std.specs.Prelude.{◌<◌, ◌≡◌, ◌≢◌, ◌+◌, ◌*◌, ◌/◌, ◌≤◌, ◌==◌, ◌||◌, if◌then◌else◌, ℕ, Bool, true, List, Option}
use Rattle.dg_model.specs.Members.{is_good, serves, HasRoom}
use Rattle.dg_model.specs.declared.members.MemberState.{MemberState}
use Rattle.dg_model.specs.declared.members.MemberState.TheVariants.{Good, Filling, Out}
use Rattle.dg_pair.specs.declared.members.Member.{Member}
use Rattle.dg_pair.specs.declared.boundaries.Boundary.{Boundary}
use Rattle.dg_pair.specs.declared.boundaries.Boundary.TheVariants.{Both, Half, Fill, Lost}

-- what member q is: one of the boundary's two, by what it does, or no member of it
abbrev pub members_of : Boundary → ℕ → MemberState
members_of (Both a b) q = if q == a.number || q == b.number then Good else Out
members_of (Half a b) q = if q == a.number then Good else Out
members_of (Fill a b) q = if q == a.number then Good else if q == b.number then Filling b.state.have else Out
members_of (Lost a b) q = Out

-- the number of the boundary: its members are 2s and 2s + 1
abbrev pub number_of : Boundary → ℕ
number_of (Both a b) = a.number / 2
number_of (Half a b) = a.number / 2
number_of (Fill a b) = a.number / 2
number_of (Lost a b) = a.number / 2

-- bytes of a slot
abbrev pub size_of : Boundary → ℕ
size_of (Both a b) = a.l
size_of (Half a b) = a.l
size_of (Fill a b) = a.l
size_of (Lost a b) = a.l

-- slots of a member
abbrev pub slots_of : Boundary → ℕ
slots_of (Both a b) = a.slots
slots_of (Half a b) = a.slots
slots_of (Fill a b) = a.slots
slots_of (Lost a b) = a.slots

-- these are the two members of one boundary, and of one size
pub record ArePartners {S T : Type 0} (a : Member S) (b : Member T) : Type 0 where
  pub numbers : a.number + b.number ≡ 4 * (a.number / 2) + 1
  pub sizes : b.l ≡ a.l
  pub slots : b.slots ≡ a.slots

-- its members are the two of one boundary, and none is refilled past its last slot
abbrev pub IsWell : Boundary → Type 0
IsWell (Both a b) = ArePartners a b
IsWell (Half a b) = ArePartners a b
IsWell (Fill a b) = ArePartners a b × (b.state.have ≤ b.slots)
IsWell (Lost a b) = ArePartners a b

-- each member that isn't out is long enough for its slots, where it tells its bytes
abbrev pub MembersFit : ℕ → ℕ → (ℕ → MemberState) → (ℕ → Option (List ℕ)) → Type 0
MembersFit l slots members bytes = (q : ℕ) → members q ≢ Out → HasRoom l slots (bytes q)

-- each member that isn't out stands
abbrev pub MembersStand : (ℕ → MemberState) → (ℕ → Bool) → Type 0
MembersStand members stands = (q : ℕ) → members q ≢ Out → stands q ≡ true

-- how many of boundary s's members are good
abbrev pub goods_in : (ℕ → MemberState) → ℕ → ℕ
goods_in members s = (if is_good (members (2 * s)) then 1 else 0) + (if is_good (members (2 * s + 1)) then 1 else 0)

-- how many of boundary s's members hold what is written to this slot
abbrev pub servers_in : (ℕ → MemberState) → ℕ → ℕ → ℕ
servers_in members s slot = (if serves (members (2 * s)) slot then 1 else 0) + (if serves (members (2 * s + 1)) slot then 1 else 0)

-- a refill that is given up
abbrev pub unfilled : MemberState → MemberState
unfilled Good = Good
unfilled (Filling have) = Out
unfilled Out = Out

-- a refill that is one slot further
abbrev pub raised : MemberState → MemberState
raised Good = Good
raised (Filling have) = Filling (have + 1)
raised Out = Out

-- a refill that is done
abbrev pub completed : MemberState → MemberState
completed Good = Good
completed (Filling have) = Good
completed Out = Out

-- some member is being refilled, and is so far
pub record IsFilling (members : ℕ → MemberState) (have : ℕ) : Type 0 where
  pub member : ℕ
  pub fills : members member ≡ Filling have

-- some member is being refilled, and not past its last slot
pub record HasNext (members : ℕ → MemberState) (slots : ℕ) : Type 0 where
  pub have : ℕ
  pub filling : IsFilling members have
  pub below : have < slots
