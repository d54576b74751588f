-- The first pass of a commit over the members.
use Rattle.std.specs.Prelude.{◌≡◌, ◌≢◌, ◌≤◌, ◌<◌, ◌*◌, ◌^◌, ◌%◌, ◌↔◌, ◌⊎◌, if◌then◌else◌, IsSome, ℕ, Bool, true, false, List, [], Option, Some, None, IfSome, length, slice_get, slice_index_or}
use Rattle.dg_io.specs.Told.{Told, IsSame, StillTold}
use Rattle.dg_io.specs.declared.outside.Rack.{Ghosts}
use Rattle.dg_io.specs.Kept.{Kept}
use Rattle.dg_model.specs.Causes.{Rose}
use Rattle.dg_model.specs.Moves.{count_upto}
use Rattle.dg_io.specs.Makes.{Makes}
use Rattle.dg_io.specs.RackCalls.{RackCall}
use Rattle.dg_io.specs.RackCalls.RackCall.{calls}
use Rattle.dg_stop.specs.Anchors.{Holds, Stays}
use Rattle.dg_stop.specs.Behind.{MostCalls}
use Rattle.dg_stop.specs.Headers.{Header, HasHeader}
use Rattle.dg_stop.specs.Layouts.{SamePages, bit_in, bits_of, double_size, seen, table_size}
use Rattle.dg_stop.specs.Reopens.{Reopened}
use Rattle.dg_stop.specs.Commits.{AreBelow, AreGuarded, IsFresh, IsNamed, IsNamedOrNone, IsOpenTo, IsPlaced, Prepares, PutsHeader, WritesHeader, as_committed}
use Rattle.dg_stop.specs.Stops.{AreOfOne}
use Rattle.dg_stop.specs.declared.places.Places.{Places}

abbrev pub flag_in : List Bool → ℕ → Bool
flag_in flags q = slice_index_or flags q false

abbrev pub size_of : Option Places → ℕ
size_of None = 0
size_of (Some held) = held.size

abbrev pub bits_of_held : Option Places → List ℕ
bits_of_held None = []
bits_of_held (Some held) = held.bits.items

abbrev pub size_in : List Places → ℕ → ℕ
size_in members q = size_of (slice_get members q)

abbrev pub bits_in : List Places → ℕ → List ℕ
bits_in members q = bits_of_held (slice_get members q)

-- numbers of a commit
pub record CanPrepare (sequence room : ℕ) (extra : List ℕ) : Type 0 where
  pub first : 1 ≤ sequence
  pub last : sequence < 2 ^ 62
  pub fits : length extra ≤ room

-- the member stands, and has the layout that is kept in memory
pub record Sized {S : Type 0} (rack : Ghosts S) (members : List Places) (room q : ℕ) (now : S) : Type 0 where
  pub there : q < length members
  pub stands : rack.stands now q ≡ true
  pub small : size_in members q < 2 ^ 48
  pub bits : length (bits_in members q) ≡ bits_of (size_in members q)
  pub long : IfSome (rack.bytes now q) (λ all. length all ≡ double_size (size_in members q) room)

-- the header that a member gets
abbrev pub head_of : List Places → ℕ → ℕ → List ℕ → ℕ → Header
head_of members s room extra q =
    record { sequence = s; committed = false; member = q; size = size_in members q; room = room; extra = length extra }

-- the bytes of a member, as the places in memory name them
abbrev pub view_of : List Places → ℕ → ℕ → List ℕ → List ℕ
view_of members room q all = seen (table_size (size_in members q) room) (bit_in (bits_in members q)) (size_in members q) all

-- a call that reads or writes member q, which served
pub record IsOnServed (q : ℕ) (served : Bool) (call : RackCall) : Type 0 where
  pub on : call ≡ calls q
  pub was : served ≡ true

-- a call that reads or writes a member that served
pub record IsServed (served : List Bool) (call : RackCall) : Type 0 where
  pub member : ℕ
  pub is : IsOnServed member (flag_in served member) call

-- What a pass does to member q, where a table has t bytes: its count of faults rose exactly where it serves no more, and its pages stand
-- as they were.
pub record Reaches {S : Type 0} (rack : Ghosts S) (t q : ℕ) (served serves : Bool) (before now : S) : Type 0 where
  pub cause : served ≡ true → serves ≡ false → Rose ((rack.counts before).faults q) ((rack.counts now).faults q)
  pub spared : serves ≡ served → (rack.counts now).faults q ≡ (rack.counts before).faults q
  pub pages : Told (SamePages t) (rack.bytes before q) (rack.bytes now q)

-- What the first pass leaves of member q, which served before, or didn't, and serves now, or doesn't.
pub record SoFar {S : Type 0} (rack : Ghosts S) (members : List Places) (s room : ℕ) (extra : List ℕ) (q : ℕ)
    (served serves : Bool) (before now : S) : Type 0 where
  pub only : serves ≡ true → served ≡ true
  pub sized : serves ≡ true → Sized rack members room q now
  pub idle : served ≡ false → Told IsSame (rack.bytes before q) (rack.bytes now q)
  pub prepares : rack.steady before → served ≡ true → (p : ℕ)
      → Told (λ b a. IsOpenTo p q (head_of members s room extra q) b → Prepares p s q b a) (rack.bytes before q) (rack.bytes now q)
  pub named : serves ≡ true
      → Told (λ b a. AreBelow s q b → IsNamed q (head_of members s room extra q) extra (view_of members room q b) a) (rack.bytes before q) (rack.bytes now q)
  pub placed : serves ≡ true
      → Told (λ b a. IsPlaced (head_of members s room extra q) (bit_in (bits_in members q)) a) (rack.bytes before q) (rack.bytes now q)
  pub stopped : rack.steady before → served ≡ true → serves ≡ false
      → Told (λ b a. AreBelow s q b → IsNamedOrNone q (head_of members s room extra q) extra (view_of members room q b) a)
      (rack.bytes before q) (rack.bytes now q)
  pub steady_on : rack.steady before ↔ rack.steady now
  pub tells : StillTold (rack.bytes before) (rack.bytes now)
  pub reach : Reaches rack (table_size (size_in members q) room) q served serves before now

-- the other members, and whether they serve, are as they were
pub record LeavesOthers {S : Type 0} (rack : Ghosts S) (q : ℕ) (served serving : List Bool) (before now : S) : Type 0 where
  pub flags : (r : ℕ) → r ≢ q → flag_in serving r ≡ flag_in served r
  pub bytes : (r : ℕ) → r ≢ q → Told IsSame (rack.bytes before r) (rack.bytes now r)
  pub stand : (r : ℕ) → r ≢ q → rack.stands before r ≡ true → rack.stands now r ≡ true
  pub faults : (r : ℕ) → r ≢ q → (rack.counts now).faults r ≡ (rack.counts before).faults r

-- a member whose turn hasn't come
pub record Untouched {S : Type 0} (rack : Ghosts S) (members : List Places) (room q : ℕ) (first now : List Bool) (old mid : S) : Type 0 where
  pub flag : flag_in now q ≡ flag_in first q
  pub bytes : Told IsSame (rack.bytes old q) (rack.bytes mid q)
  pub faults : (rack.counts mid).faults q ≡ (rack.counts old).faults q
  pub sized : flag_in first q ≡ true → Sized rack members room q mid

-- the members below n had their turns
pub record PassedBelow {S : Type 0} (rack : Ghosts S) (members : List Places) (s room : ℕ) (extra : List ℕ) (n : ℕ)
    (first now : List Bool) (old mid : S) : Type 0 where
  pub steady_on : rack.steady old ↔ rack.steady mid
  pub tells : StillTold (rack.bytes old) (rack.bytes mid)
  pub calls : MostCalls rack (3 * count_upto n (flag_in first)) old mid
  pub made : Makes rack (IsServed first) old mid
  pub below : (q : ℕ) → q < n → SoFar rack members s room extra q (flag_in first q) (flag_in now q) old mid
  pub rest : (q : ℕ) → n ≤ q → Untouched rack members room q first now old mid

-- What the second pass leaves of member q.
pub record Finished {S : Type 0} (rack : Ghosts S) (members : List Places) (s room : ℕ) (extra : List ℕ) (q : ℕ)
    (served serves : Bool) (before now : S) : Type 0 where
  pub only : serves ≡ true → served ≡ true
  pub sized : serves ≡ true → Sized rack members room q now
  pub idle : served ≡ false → Told IsSame (rack.bytes before q) (rack.bytes now q)
  pub wrote : rack.steady before → served ≡ true
      → Told (WritesHeader (as_committed (head_of members s room extra q))) (rack.bytes before q) (rack.bytes now q)
  pub done : serves ≡ true → Told (PutsHeader (as_committed (head_of members s room extra q))) (rack.bytes before q) (rack.bytes now q)
  pub steady_on : rack.steady before ↔ rack.steady now
  pub tells : StillTold (rack.bytes before) (rack.bytes now)
  pub reach : Reaches rack (table_size (size_in members q) room) q served serves before now

pub record FinishedBelow {S : Type 0} (rack : Ghosts S) (members : List Places) (s room : ℕ) (extra : List ℕ) (n : ℕ)
    (first now : List Bool) (old mid : S) : Type 0 where
  pub steady_on : rack.steady old ↔ rack.steady mid
  pub tells : StillTold (rack.bytes old) (rack.bytes mid)
  pub calls : MostCalls rack (count_upto n (flag_in first)) old mid
  pub made : Makes rack (IsServed first) old mid
  pub below : (q : ℕ) → q < n → Finished rack members s room extra q (flag_in first q) (flag_in now q) old mid
  pub rest : (q : ℕ) → n ≤ q → Untouched rack members room q first now old mid

-- ---- a whole commit, once

-- some member that served serves no more
pub record IsFewer (served serves : List Bool) : Type 0 where
  pub member : ℕ
  pub was : flag_in served member ≡ true
  pub isnt : flag_in serves member ≡ false

-- What tries of a commit leave of a rack: only members that served are called, no page of a member changes, a member serves no more only
-- where its count of faults rose, and each other one serves on.
pub record LeavesTries {S : Type 0} (rack : Ghosts S) (members : List Places) (room : ℕ) (served serves : List Bool) (old new : S) : Type 0 where
  pub made : Makes rack (IsServed served) old new
  pub only : (q : ℕ) → flag_in serves q ≡ true → flag_in served q ≡ true
  pub cause : (q : ℕ) → flag_in served q ≡ true → flag_in serves q ≡ false → Rose ((rack.counts old).faults q) ((rack.counts new).faults q)
  pub spared : (q : ℕ) → flag_in serves q ≡ flag_in served q → (rack.counts new).faults q ≡ (rack.counts old).faults q
  pub sized : (q : ℕ) → flag_in serves q ≡ true → Sized rack members room q new
  pub pages : (q : ℕ) → Told (SamePages (table_size (size_in members q) room)) (rack.bytes old q) (rack.bytes new q)
  pub tells : StillTold (rack.bytes old) (rack.bytes new)
  pub steady_on : rack.steady old ↔ rack.steady new

-- what one commit leaves: it isn't tried only where a member fell before
pub record LeavesOnce {S : Type 0} (rack : Ghosts S) (members : List Places) (room : ℕ) (tried : Bool) (served serves : List Bool) (old new : S) : Type 0 where
  pub tries : LeavesTries rack members room served serves old new
  pub fewer : tried ≡ false → IsFewer served serves

abbrev pub bytes_or : Option (List ℕ) → List ℕ
bytes_or None = []
bytes_or (Some bytes) = bytes

-- the bytes of each known member, where they are told. The others count as bare
abbrev pub known_at : (ℕ → Bool) → (ℕ → Option (List ℕ)) → ℕ → List ℕ
known_at known bytes q = if known q then bytes_or (bytes q) else []

-- the bytes of all members are told
abbrev pub TellsAll : (ℕ → Option (List ℕ)) → Type 0
TellsAll bytes = (q : ℕ) → q < 32 → IsSome (bytes q)

-- the bytes of the known members are told
abbrev pub TellsKnown : (ℕ → Bool) → (ℕ → Option (List ℕ)) → Type 0
TellsKnown known bytes = (q : ℕ) → known q ≡ true → IsSome (bytes q)

-- the checkpoint of a commit: the bytes of each member that served, and the extra bytes
abbrev pub all_kept : List Places → ℕ → List ℕ → List Bool → (ℕ → List ℕ) → Kept
all_kept members room extra served before =
    record { entries = λ q. if flag_in served q then Some (view_of members room q (before q)) else None; extra = extra }

-- What a commit leaves of what was kept: not tried, the old checkpoint; else the old one or that of all members that served.
pub record KeepsOrCommits (members : List Places) (s room : ℕ) (extra : List ℕ) (tried : Bool) (served serves : List Bool) (p : ℕ)
    (stand on : ℕ → Bool) (before after : ℕ → List ℕ) (kept : Kept) : Type 0 where
  pub untried : tried ≡ false → Stays stand on before after kept
  pub fresh : p ≤ s → IsFresh after p
  pub either : Stays stand on before after kept ⊎ Holds on after (all_kept members room extra served before)

-- who may stand after a commit: who serves, and who stood and didn't serve
abbrev pub StandsAfter : (ℕ → Bool) → List Bool → List Bool → (ℕ → Bool) → Type 0
StandsAfter stand served serves on = (q : ℕ) → on q ≡ true → (flag_in serves q ≡ true) ⊎ ((stand q ≡ true) × (flag_in served q ≡ false))

-- What a commit leaves of the invariant of the members that stand then: not tried, or where nobody serves any more, what held of p, but
-- that s was seen; where it was made, it holds of s and of the places in memory, and the headers of s are of one commit.
pub record Guards (members : List Places) (s room : ℕ) (extra : List ℕ) (places : ℕ → ℕ → Bool) (p : ℕ) (tried : Bool)
    (served serves : List Bool) (on : ℕ → Bool) (before after : ℕ → List ℕ) : Type 0 where
  pub untried : tried ≡ false → AreGuarded on (size_in members) room places p s after
  pub lost : tried ≡ true → ((q : ℕ) → flag_in serves q ≡ false) → AreGuarded on (size_in members) room places p s after
  pub made : tried ≡ true → (q : ℕ) → flag_in serves q ≡ true
      → AreGuarded on (size_in members) room (λ r. bit_in (bits_in members r)) s s after × IsFresh after s
      × Holds on after (all_kept members room extra served before)
  pub one : tried ≡ true → (q : ℕ) (lead : Header) → HasHeader q (after q) lead → lead.sequence ≡ s → AreOfOne s lead extra after

-- where the rack is steady and tells the known members' bytes at the end, for whatever was kept of these, of which are all that stand, and of
-- these all that serve
abbrev pub LeavesKept : {S : Type 0} → Ghosts S → List Places → ℕ → ℕ → List ℕ → Bool → List Bool → List Bool → S → S → Type 0
LeavesKept rack members s room extra tried served serves old new =
    rack.steady old → (known stand : ℕ → Bool) → TellsKnown known (rack.bytes new) → ((q : ℕ) → stand q ≡ true → known q ≡ true)
    → ((q : ℕ) → flag_in served q ≡ true → stand q ≡ true)
    → (places : ℕ → ℕ → Bool) (p top : ℕ) → AreGuarded stand (size_in members) room places p top (known_at known (rack.bytes old)) → top < s → s % 2 ≢ p % 2
    → ((on : ℕ → Bool) → StandsAfter stand served serves on
    → Guards members s room extra places p tried served serves on (known_at known (rack.bytes old)) (known_at known (rack.bytes new)))
    × (IsFresh (known_at known (rack.bytes old)) p → (kept : Kept) → Reopened (known_at known (rack.bytes old)) kept
    → (on : ℕ → Bool) → StandsAfter stand served serves on
    → KeepsOrCommits members s room extra tried served serves p stand on (known_at known (rack.bytes old)) (known_at known (rack.bytes new)) kept)
