-- Calls that were made of a rack of the boundaries in use.
use Rattle.std.specs.Prelude.{◌≡◌, ◌+◌, ◌≤◌, ℕ, Bool, not, List, filter, length, map, slice_index}
use Rattle.dg_io.specs.RackCalls.{RackCall, Each, IsNotOn, member_of}
use Rattle.dg_io.specs.RackCalls.RackCall.{looks, blanks, calls, extends}
use Rattle.dg_io.specs.declared.outside.Rack.{Ghosts}
use Rattle.dg_model.specs.Lives.{member_at}
use Rattle.dg_regroup.specs.LiveRacks.{is_there}
use Rattle.dg_regroup.specs.declared.live_racks.LiveRack.{LiveRack}

-- the call, with the number of its member in the rack below
abbrev pub call_below : List ℕ → RackCall → RackCall
call_below live (looks q) = looks (member_at live q)
call_below live (blanks q) = blanks (member_at live q)
call_below live (calls q) = calls (member_at live q)
call_below live (extends q) = extends (member_at live q)

-- whether the call is one on a member that is there
abbrev pub is_passed : List ℕ → RackCall → Bool
is_passed live call = is_there live (member_of call)

-- those of the calls that the rack below gets
abbrev pub calls_below : List ℕ → List RackCall → List RackCall
calls_below live made = map (call_below live) (filter (is_passed live) made)

-- how many of them are on members that aren't there
abbrev pub count_absent : List ℕ → List RackCall → ℕ
count_absent live made = length (filter (λ call. not (is_passed live call)) made)

-- What may have become of it by just these calls: the boundaries in use are the same, the rack below got those on members that are there, and
-- the others were counted.
pub record LiveMade {R : Type 0} (rack : Ghosts R) (old : LiveRack R) (made : List RackCall) (new : LiveRack R) : Type 0 where
  pub live : new.live ≡ old.live
  pub below : rack.made old.rack (calls_below old.live.items made) new.rack
  pub faults_rise : (q : ℕ) → slice_index old.absent q ≤ slice_index new.absent q
  pub others : (q : ℕ) → Each (IsNotOn q) made → slice_index new.absent q ≡ slice_index old.absent q
  pub calls_rise : old.calls ≤ new.calls
  pub few_calls : new.calls ≤ old.calls + count_absent old.live.items made
  pub writes_rise : old.writes ≤ new.writes
  pub few_writes : new.writes ≤ old.writes + count_absent old.live.items made
