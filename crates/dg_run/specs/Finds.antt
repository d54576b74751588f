-- What a command finds on the members of a rack: an array that keeps no checkpoint, where no member has a header; or one that keeps a checkpoint, which is seen
-- by the places of its boundaries in use, as the last commit has it. The rules are this project's own.
use Rattle.std.specs.Prelude.{◌≡◌, ◌⊎◌, ◌<◌, ◌≤◌, ◌/◌, ℕ, Bool, true, false, List, [], Option, Some, None, IfSome, IsSome, MatchOption, length, slice_index}
use Rattle.dg_io.specs.Kept.{Kept}
use Rattle.dg_io.specs.Told.{StillTold, Told}
use Rattle.dg_model.specs.Causes.{Rose}
use Rattle.dg_model.specs.Lives.{all_live, member_at}
use Rattle.dg_model.specs.States.{Counts, CountsRise}
use Rattle.dg_regroup.specs.ExtraBytes.{HasNoExtra}
use Rattle.dg_regroup.specs.Extras.{IsExtra, extra_bytes}
use Rattle.dg_regroup.specs.FrontRacks.{front_of}
use Rattle.dg_regroup.specs.LiveRacks.{is_there}
use Rattle.dg_regroup.specs.declared.extras.Extra.{Extra}
use Rattle.dg_saved.specs.Calls.{Facts}
use Rattle.dg_stop.specs.Headers.{Header, HasHeader, HasNoHeader, IsBareLabeled, IsLabeled}
use Rattle.dg_stop.specs.Layouts.{SamePages, table_size}
use Rattle.dg_stop.specs.Phases.{TellsKnown, known_at}
use Rattle.dg_stop.specs.Reopens.{IsLast, Leads, Reopened}

-- ---- headers

-- a call on member q failed
abbrev pub HasFailed : Facts → ℕ → Type 0
HasFailed facts q = Rose (facts.before.faults q) (facts.now.faults q)

-- it begins as the label of an array that keeps no checkpoint
abbrev pub BeganLabeled : Facts → ℕ → Type 0
BeganLabeled facts q = Told (λ before after. IsLabeled before) (facts.images q) (facts.bytes q)

-- Headers were looked for on the members 0 to 31. A member isn't known on which a call failed meanwhile, or that begins as such a label; only one that is too short
-- for a header is known though it does.
pub record AreKnown (facts : Facts) (known : ℕ → Bool) : Type 0 where
  pub low : (q : ℕ) → known q ≡ true → q < 32
  pub lost : (q : ℕ) → q < 32 → known q ≡ false → HasFailed facts q ⊎ BeganLabeled facts q
  pub bare : (q : ℕ) → known q ≡ true → Told (λ before after. IsBareLabeled q before) (facts.images q) (facts.bytes q)

-- no known member had a header
pub record HasNoHeaders (facts : Facts) : Type 0 where
  pub known : ℕ → Bool
  pub are : AreKnown facts known
  pub none : (q : ℕ) → known q ≡ true → Told (λ before after. HasNoHeader q before) (facts.images q) (facts.bytes q)

-- a known member had this one
pub record HadHeader (facts : Facts) (known : ℕ → Bool) : Type 0 where
  pub member : ℕ
  pub header : Header
  pub is_known : known member ≡ true
  pub had : Told (λ before after. HasHeader member before header) (facts.images member) (facts.bytes member)

-- ---- how members are seen

-- the extra bytes say this, or nothing
abbrev pub IsSaid : List ℕ → Option Extra → Type 0
IsSaid bytes said = MatchOption said (HasNoExtra bytes) (λ extra. IsExtra extra × (bytes ≡ extra_bytes extra))

-- the boundaries in use: those that it says, or all 16 that there may be
abbrev pub live_said : Option Extra → List ℕ
live_said None = all_live 16
live_said (Some extra) = extra.live

-- how many boundaries the first line had
abbrev pub boundaries_said : Option Extra → ℕ
boundaries_said None = 16
boundaries_said (Some extra) = extra.boundaries

-- what is seen of a member by its entry: as many of its bytes as it says, or all; and none where there is no entry
abbrev pub entry_seen : Option Extra → Option (List ℕ) → List ℕ
entry_seen said None = []
entry_seen None (Some all) = all
entry_seen (Some extra) (Some all) = front_of (Some extra.length) all

-- the member at this place
abbrev pub member_seen : Option Extra → ℕ → ℕ
member_seen said q = member_at (live_said said) q

abbrev pub IsPlace : Option Extra → ℕ → Type 0
IsPlace said q = q / 2 < length (live_said said)

-- of the member at a place it is told what it is seen to hold, where it is told of the member
abbrev pub tells_seen : (ℕ → Type 0) → Option Extra → ℕ → Type 0
tells_seen tells said q = is_there (live_said said) q ≡ true → tells (member_seen said q)

-- no call was counted
pub record AreNone (counts : Counts) : Type 0 where
  pub faults : (q : ℕ) → counts.faults q ≡ 0
  pub calls : counts.calls ≡ 0
  pub writes : counts.writes ≡ 0

-- The members are reopened as this checkpoint, and so they are seen: the member at each place shows its entry, where that is told, but for one on which a call
-- failed. `sizes` tells how many bytes each member has by its entry.
pub record SeesEntries (facts seen : Facts) (said : Option Extra) (sizes : ℕ → ℕ) (kept : Kept) : Type 0 where
  pub extra : seen.extra ≡ kept.extra
  pub images : (q : ℕ) → IsPlace said q → IfSome (seen.images q) (λ all. all ≡ entry_seen said (kept.entries (member_seen said q))) ⊎ HasFailed facts (member_seen said q)
  pub sizes_are : (m : ℕ) → (sizes m ≡ length (entry_seen None (kept.entries m))) ⊎ HasFailed facts m

-- ---- an array that keeps a checkpoint

-- What is seen of a rack that keeps one, of which these facts are told. A known member had a header. The boundaries in use are those that the extra bytes say.
-- No count of the rack fell; those that are seen begin at 0, and that of a member rises only where the rack's does. What is told of a member is told of what
-- is seen of it, and at the places behind those of the boundaries in use no byte is. Where the bytes of the known members are told, they are seen as the last commit has them.
pub record Sees (tells : ℕ → Type 0) (facts seen : Facts) : Type 0 where
  pub known : ℕ → Bool
  pub are : AreKnown facts known
  pub some : HadHeader facts known
  pub said : Option Extra
  pub is_said : IsSaid seen.extra said
  pub rise : CountsRise facts.before facts.now
  pub begin : AreNone seen.before
  pub failed : (q : ℕ) → IsPlace said q → tells (member_seen said q) → seen.before.faults q < seen.now.faults q → HasFailed facts (member_seen said q)
  pub told : (q : ℕ) → IsPlace said q → IsSome (facts.bytes (member_seen said q)) → IsSome (seen.bytes q)
  pub still : StillTold seen.images seen.bytes
  pub absent : (q : ℕ) → length (live_said said) ≤ q / 2 → seen.images q ≡ Some []
  pub gone : (q : ℕ) → length (live_said said) ≤ q / 2 → seen.bytes q ≡ Some []
  pub sizes : ℕ → ℕ
  pub entries : TellsKnown known facts.bytes → (kept : Kept) → Reopened (known_at known facts.images) kept → SeesEntries facts seen said sizes kept
  pub rooms : TellsKnown known facts.bytes → (c q : ℕ) (lead : Header) → IsLast (known_at known facts.images) c → Leads (known_at known facts.images) c q lead
      → seen.room ≡ Some lead.room
  pub taken : seen.taken ≡ facts.taken
  pub given : seen.given ≡ facts.given

-- member m is one of none of these boundaries
abbrev pub IsBeside : List ℕ → ℕ → Type 0
IsBeside live m = (x : ℕ) → x < length live → slice_index live x ≡ m / 2 → ⊥

-- the bytes of a member behind its headers and tables, in which a header may be completed, are as they were
abbrev pub HasSamePages : Facts → Option ℕ → (ℕ → ℕ) → ℕ → Type 0
HasSamePages facts room sizes m = IfSome room (λ bytes. Told (SamePages (table_size (sizes m) bytes)) (facts.images m) (facts.bytes m))

-- ---- either of them

-- It ends so, of an array that keeps no checkpoint.
pub record FindsPlain (facts : Facts) (Ends : Type 0) : Type 0 where
  pub none : HasNoHeaders facts
  pub ends : Ends

-- It ends so by what is seen of an array that keeps one. The members beside those of its boundaries in use were left alone.
pub record FindsKept (tells : ℕ → Type 0) (facts : Facts) (by : (ℕ → Type 0) → Facts → Type 0) : Type 0 where
  pub seen : Facts
  pub sees : Sees tells facts seen
  pub others : (m : ℕ) → IsBeside (live_said sees.said) m → HasSamePages facts seen.room sees.sizes m
  pub ends : by (tells_seen tells sees.said) seen

abbrev pub Finds : (ℕ → Type 0) → Facts → ((ℕ → Type 0) → Facts → Type 0) → Type 0
Finds tells facts by = FindsPlain facts (by tells facts) ⊎ FindsKept tells facts by
