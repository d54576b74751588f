-- Calls that were made of a rack of which some members show their first bytes alone.
use Rattle.std.specs.Prelude.{◌≡◌, ◌⊎◌, ◌≤◌, ◌∷◌, ℕ, false, true, List, [], None, slice_index}
use Rattle.dg_io.specs.Disks.{DiskStates}
use Rattle.dg_io.specs.RackCalls.{RackCall, Each, IsNoBlank, IsNotOn}
use Rattle.dg_io.specs.RackCalls.RackCall.{looks, blanks, calls, extends}
use Rattle.dg_io.specs.Told.{IsSame, Told}
use Rattle.dg_io.specs.declared.outside.Rack.{Ghosts}
use Rattle.dg_regroup.specs.FrontRacks.{is_front}
use Rattle.dg_regroup.specs.declared.front_racks.FrontRack.{FrontRack}

-- the disks of the rack below
abbrev pub front_disks : {R : Type 0} → Ghosts R → FrontRack R → DiskStates
front_disks rack it = rack.disks it.rack

-- it extends no member
abbrev pub IsNoExtend : RackCall → Type 0
IsNoExtend (looks q) = Unit {0}
IsNoExtend (blanks q) = Unit {0}
IsNoExtend (calls q) = Unit {0}
IsNoExtend (extends q) = ⊥

-- the call that the rack below gets for this one: a member that shows its first bytes alone isn't made longer, and is read in place of that
abbrev pub IsFor : RackCall → RackCall → Type 0
IsFor (looks q) below = below ≡ looks q
IsFor (blanks q) below = below ≡ blanks q
IsFor (calls q) below = below ≡ calls q
IsFor (extends q) below = (below ≡ extends q) ⊎ (below ≡ calls q)

-- one for each of these calls, in their order
abbrev pub AreFor : List RackCall → List RackCall → Type 0
AreFor [] [] = Unit {0}
AreFor [] (below ∷ others) = ⊥
AreFor (call ∷ rest) [] = ⊥
AreFor (call ∷ rest) (below ∷ others) = IsFor call below × AreFor rest others

-- What may have become of it by just these calls: the rack below got one for each of them, members that weren't made anew show what they did, and
-- refused calls were counted.
pub record FrontMade {R : Type 0} (rack : Ghosts R) (old : FrontRack R) (made : List RackCall) (new : FrontRack R) : Type 0 where
  pub length : new.length ≡ old.length
  pub passed : List RackCall
  pub are_for : AreFor made passed
  pub below : rack.made old.rack passed new.rack
  pub same_front : (q : ℕ) → Each (IsNotOn q) made → is_front new q ≡ is_front old q
  pub same_fronts : Each IsNoBlank made → (q : ℕ) → is_front new q ≡ is_front old q
  pub rise : (q : ℕ) → slice_index old.refused q ≤ slice_index new.refused q
  pub others : (q : ℕ) → Each (IsNotOn q) made → slice_index new.refused q ≡ slice_index old.refused q
  pub writes : old.writes ≤ new.writes
  -- where members are shown whole or not at all none is refused
  pub whole_refused : old.length ≡ None → (q : ℕ) → slice_index new.refused q ≡ slice_index old.refused q
  pub whole_writes : old.length ≡ None → new.writes ≡ old.writes
  -- a member that shows all its bytes goes on so
  pub still : (q : ℕ) → is_front old q ≡ false → is_front new q ≡ false
  -- one that shows nothing holds what it held, as long as it shows nothing
  pub unseen : old.length ≡ None → (q : ℕ) → is_front old q ≡ true → is_front new q ≡ true → Told IsSame (rack.bytes old.rack q) (rack.bytes new.rack q)
  -- calls that extend no member aren't refused
  pub same_refused : Each IsNoExtend made → (q : ℕ) → slice_index new.refused q ≡ slice_index old.refused q
  pub same_writes : Each IsNoExtend made → new.writes ≡ old.writes
