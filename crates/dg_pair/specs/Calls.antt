-- What any call leaves of a boundary and of the rack that its members stand in. The rules are this project's own.
use Rattle.std.specs.Prelude.{◌≡◌, ◌≢◌, ◌↔◌, ◌+◌, ◌*◌, ◌/◌, ◌≤◌, ◌<◌, ◌==◌, if◌then◌else◌, ℕ, true, List, Option}
use Rattle.dg_model.specs.Members.{ArePaired, MembersFall}
use Rattle.dg_model.specs.States.{Counts, CountsRise}
use Rattle.dg_model.specs.declared.members.MemberState.{MemberState}
use Rattle.dg_model.specs.declared.members.MemberState.TheVariants.{Good, Filling, Out}
use Rattle.dg_io.specs.RackCalls.{RackCall, looks, blanks, calls, extends}
use Rattle.dg_io.specs.RackWords.{MadeOnly}
use Rattle.dg_io.specs.Told.{Told, IsSame, Torn, StillTold}
use Rattle.dg_io.specs.declared.outside.Rack.{Ghosts}
use Rattle.dg_pair.specs.Boundaries.{members_of, number_of, size_of, slots_of, IsWell, MembersFit, MembersStand, raised}
use Rattle.dg_pair.specs.declared.boundaries.Boundary.{Boundary}
use Rattle.dg_pair.specs.declared.boundaries.CopyAnswer.{CopyAnswer}
use Rattle.dg_pair.specs.declared.boundaries.CopyAnswer.TheVariants.{Copied, Lost as CopyLost, Fell}
use Rattle.dg_pair.specs.declared.boundaries.ReplaceAnswer.{ReplaceAnswer}
use Rattle.dg_pair.specs.declared.boundaries.ReplaceAnswer.TheVariants.{Replaced, Lost, NotOut, Failed}

-- boundary number `number`, with so many slots of l bytes
pub record IsPair (number l slots : ℕ) (boundary : Boundary) : Type 0 where
  pub well : IsWell boundary
  pub number_is : number_of boundary ≡ number
  pub size_is : size_of boundary ≡ l
  pub slots_is : slots_of boundary ≡ slots
  -- it has no other members than its two
  pub own : (q : ℕ) → q / 2 ≢ number → members_of boundary q ≡ Out
  -- a member that is refilled has a good partner
  pub paired : ArePaired (members_of boundary)

-- the boundary has the number, the bytes of a slot and the slots that it had
abbrev pub KeepsPair : Boundary → Boundary → Type 0
KeepsPair old new = IsPair (number_of old) (size_of old) (slots_of old) new

-- a call that reads or writes a member of boundary s
abbrev pub IsCallAt : ℕ → RackCall → Type 0
IsCallAt s (looks q) = ⊥
IsCallAt s (blanks q) = ⊥
IsCallAt s (calls q) = q / 2 ≡ s
IsCallAt s (extends q) = ⊥

-- a call that extends a member of boundary s
abbrev pub IsExtendAt : ℕ → RackCall → Type 0
IsExtendAt s (looks q) = ⊥
IsExtendAt s (blanks q) = ⊥
IsExtendAt s (calls q) = ⊥
IsExtendAt s (extends q) = q / 2 ≡ s

-- a call that makes a member of boundary s anew
abbrev pub IsBlankAt : ℕ → RackCall → Type 0
IsBlankAt s (looks q) = ⊥
IsBlankAt s (blanks q) = q / 2 ≡ s
IsBlankAt s (calls q) = ⊥
IsBlankAt s (extends q) = ⊥

-- a call that reads or writes a member that isn't out
abbrev pub IsCallOf : (ℕ → MemberState) → RackCall → Type 0
IsCallOf members (looks q) = ⊥
IsCallOf members (blanks q) = ⊥
IsCallOf members (calls q) = members q ≢ Out
IsCallOf members (extends q) = ⊥

-- a call that extends a member that isn't out
abbrev pub IsExtendOf : (ℕ → MemberState) → RackCall → Type 0
IsExtendOf members (looks q) = ⊥
IsExtendOf members (blanks q) = ⊥
IsExtendOf members (calls q) = ⊥
IsExtendOf members (extends q) = members q ≢ Out

-- a call that makes member p anew
abbrev pub IsBlankOf : ℕ → RackCall → Type 0
IsBlankOf p (looks q) = ⊥
IsBlankOf p (blanks q) = q ≡ p
IsBlankOf p (calls q) = ⊥
IsBlankOf p (extends q) = ⊥

-- What a call over a rack leaves. `may` is which calls were made of the rack, and `expected` is what the members do where none of these on one of them fails.
pub record LeavesBoundary {S : Type 0} (rack : Ghosts S) (may : RackCall → Type 0) (number l slots : ℕ) (expected : ℕ → MemberState) (new : Boundary) (before now : S) : Type 0 where
  pub pair : IsPair number l slots new
  -- each member does what is expected, or has fallen
  pub falls : MembersFall (rack.counts before).faults (rack.counts now).faults expected (members_of new)
  -- each member that isn't out is long enough, where it tells its bytes, and stands
  pub room : MembersFit l slots (members_of new) (rack.bytes now)
  pub stand : MembersStand (members_of new) (rack.stands now)
  -- the members of other boundaries are as they were
  pub other_bytes : (q : ℕ) → q / 2 ≢ number → Told IsSame (rack.bytes before q) (rack.bytes now q)
  pub other_faults : (q : ℕ) → q / 2 ≢ number → (rack.counts now).faults q ≡ (rack.counts before).faults q
  pub others_stand : (q : ℕ) → q / 2 ≢ number → rack.stands before q ≡ true → rack.stands now q ≡ true
  -- such calls were made alone, and a member whose call failed is out
  pub made : MadeOnly rack may before now
  pub fell : (q : ℕ) → (rack.counts before).faults q < (rack.counts now).faults q → members_of new q ≡ Out
  -- no count fell, what is told now was told before, and it is the same rack
  pub rise : CountsRise (rack.counts before) (rack.counts now)
  pub tells : StillTold (rack.bytes before) (rack.bytes now)
  pub same_rack : rack.name now ≡ rack.name before
  pub steady_on : rack.steady before ↔ rack.steady now

-- the same of calls on the members of a boundary that was there
abbrev pub LeavesPair : {S : Type 0} → Ghosts S → (ℕ → MemberState) → Boundary → Boundary → S → S → Type 0
LeavesPair rack expected old new before now = LeavesBoundary rack (IsCallAt (number_of old)) (number_of old) (size_of old) (slots_of old) expected new before now

-- the same where a member of it was extended
abbrev pub ExtendsPair : {S : Type 0} → Ghosts S → (ℕ → MemberState) → Boundary → Boundary → S → S → Type 0
ExtendsPair rack expected old new before now = LeavesBoundary rack (IsExtendAt (number_of old)) (number_of old) (size_of old) (slots_of old) expected new before now

-- the same where a member of it was made anew
abbrev pub BlanksPair : {S : Type 0} → Ghosts S → (ℕ → MemberState) → Boundary → Boundary → S → S → Type 0
BlanksPair rack expected old new before now = LeavesBoundary rack (IsBlankAt (number_of old)) (number_of old) (size_of old) (slots_of old) expected new before now

-- each member is as long as it was, and its bytes before its slots and behind them are as they were
abbrev pub KeepsBeside : ℕ → ℕ → (ℕ → Option (List ℕ)) → (ℕ → Option (List ℕ)) → Type 0
KeepsBeside l slots before now = (q : ℕ) → Told (Torn 512 (slots * l)) (before q) (now q)

-- so many calls were made at most, and so many that write
pub record MostCalls (before now : Counts) (calls writes : ℕ) : Type 0 where
  pub all : now.calls ≤ before.calls + calls
  pub writing : now.writes ≤ before.writes + writes

-- the two members of a new boundary, where no blank fails
abbrev pub begun : ℕ → ℕ → MemberState
begun number q = if q / 2 == number then Good else Out

-- the members after a replacement of member p
abbrev pub replaced : ReplaceAnswer → ℕ → (ℕ → MemberState) → ℕ → MemberState
replaced Replaced p members q = if q == p then Filling 0 else members q
replaced Lost p members q = members q
replaced NotOut p members q = members q
replaced Failed p members q = members q

-- the members after a copy, where none falls
abbrev pub copied : CopyAnswer → (ℕ → MemberState) → ℕ → MemberState
copied Copied members q = raised (members q)
copied CopyLost members q = members q
copied Fell members q = members q
