-- What an opening gives: a plain rack where no member has a header, else a double one of the members that the last commit attaches.
use Rattle.std.specs.Prelude.{◌≡◌, ◌≤◌, ◌<◌, ◌⊎◌, ◌↔◌, ◌&&◌, ◌||◌, not, ℕ, Bool, true, false, List, [], Option, Some, None, IfSome, is_some, length, slice_get}
use Rattle.dg_io.specs.Kept.{Kept}
use Rattle.dg_io.specs.Makes.{Makes}
use Rattle.dg_io.specs.Told.{IsSame, StillTold, Told}
use Rattle.dg_io.specs.declared.outside.Rack.{Ghosts}
use Rattle.dg_model.specs.Causes.{Rose}
use Rattle.dg_model.specs.Members.{partner_of}
use Rattle.dg_model.specs.States.{CountsRise}
use Rattle.dg_stop.specs.Commits.{WritesHeader, as_committed}
use Rattle.dg_stop.specs.DoubleCommits.{fell_now}
use Rattle.dg_stop.specs.Doubles.{Double, HasNoCalls, IsTooLong, double_bytes, double_keeps, fell_in, known_in, most_of, sizes_in, stands_in}
use Rattle.dg_stop.specs.FoundHeaders.{IsOpening}
use Rattle.dg_stop.specs.Headers.{Header, HasHeader, HasNoHeader, IsBareLabeled, IsLabeled}
use Rattle.dg_stop.specs.Layouts.{SamePages, table_size}
use Rattle.dg_stop.specs.Phases.{FinishedBelow, TellsAll, TellsKnown, bits_in, bits_of_held, flag_in, known_at, size_in, size_of}
use Rattle.dg_stop.specs.Readings.{HadHeader, IsSeen}
use Rattle.dg_stop.specs.Reopens.{IsLast, Leads, NoneCommitted, Reopened}
use Rattle.dg_stop.specs.Stops.{AreOfOne}
use Rattle.dg_stop.specs.Tables.{head_at}
use Rattle.dg_stop.specs.declared.headers.Header.{Header as Head}
use Rattle.dg_stop.specs.declared.memories.Memory.{Memory}
use Rattle.dg_stop.specs.declared.places.Places.{Places}
use Rattle.dg_stop.specs.declared.readings.Attached.{Attached}
use Rattle.dg_stop.specs.declared.readings.Reading.{Reading}
use Rattle.dg_stop.specs.declared.stop_racks.StopRack.{StopRack}
use Rattle.dg_stop.specs.declared.stop_racks.StopRack.TheVariants.{Plain, Doubled}

-- ---- the parts

-- the header by which a member is attached is only prepared
abbrev pub is_prepared : Option Head → Bool
is_prepared None = false
is_prepared (Some h) = not h.committed

-- its pages stand where those of this member do, if it is one, with as much memory
pub record IsCopyOf (held : Option Places) (copy : Places) : Type 0 where
  pub size : copy.size ≡ size_of held
  pub bits : copy.bits.items ≡ bits_of_held held
  pub most : copy.most ≡ most_of held

-- so do those of all members
pub record AreCopied (old new : List Places) : Type 0 where
  pub count : length new ≡ length old
  pub sizes : (q : ℕ) → size_in new q ≡ size_in old q
  pub bits : (q : ℕ) → bits_in new q ≡ bits_in old q
  pub most : (q : ℕ) → most_of (slice_get new q) ≡ most_of (slice_get old q)

-- What becomes of the members that are attached: on those that have only a prepared header the committed one is written, and where that fails the
-- member falls.
pub record Attaches {S : Type 0} (rack : Ghosts S) (known failed : List Bool) (top : ℕ) (t : Attached) (memory : Memory) (old new : S) : Type 0 where
  pub served : List Bool
  pub serves : List Bool
  pub prepared : (q : ℕ) → flag_in served q ≡ is_prepared (head_at t.heads q)
  pub finished : FinishedBelow rack t.places.items t.lead.sequence t.lead.room t.extra.items 32 served serves old new
  pub current : memory.current ≡ t.places
  pub last : AreCopied t.places.items memory.last.items
  pub stands : (q : ℕ) → stands_in memory q ≡ (is_some (head_at t.heads q) && not (fell_now served serves q))
  pub fell : (q : ℕ) → q < 32 → fell_in memory q ≡ (flag_in failed q || fell_now served serves q)
  pub fell_low : (q : ℕ) → fell_in memory q ≡ true → q < 32
  pub known_is : memory.known ≡ known
  pub room : memory.room ≡ t.lead.room
  pub commit : memory.commit ≡ t.lead.sequence
  pub top_is : memory.top ≡ top

-- No member is attached, and there is memory for none.
pub record AttachesNone (known failed : List Bool) (top : ℕ) (memory : Memory) : Type 0 where
  pub current : length memory.current.items ≡ 0
  pub stands : (q : ℕ) → stands_in memory q ≡ false
  pub fell : memory.fell ≡ failed
  pub known_is : memory.known ≡ known
  pub room : memory.room ≡ 0
  pub commit : memory.commit ≡ 0
  pub top_is : memory.top ≡ top

-- what is made of what was read
abbrev pub AttachesBy : {S : Type 0} → Ghosts S → Option Attached → List Bool → List Bool → ℕ → Memory → List ℕ → S → S → Type 0
AttachesBy rack None known failed top memory extra old new = AttachesNone known failed top memory × (extra ≡ []) × (new ≡ old)
AttachesBy rack (Some t) known failed top memory extra old new = Attaches rack known failed top t memory old new × (extra ≡ t.extra.items)

abbrev pub AttachesAll : {S : Type 0} → Ghosts S → Reading → Memory → List ℕ → S → S → Type 0
AttachesAll rack reading memory extra old new = AttachesBy rack reading.attached reading.known reading.failed reading.top memory extra old new

-- ---- the whole

-- a member begins as the label of a plain array, and is as it was
pub record IsLabeledOn {S : Type 0} (rack : Ghosts S) (q : ℕ) (old new : S) : Type 0 where
  pub same : Told IsSame (rack.bytes old q) (rack.bytes new q)
  pub labeled : IfSome (rack.bytes new q) IsLabeled

-- What an opening leaves of the rack behind: it looks for members below 32, reads them and writes their headers, and a member's count of faults
-- rises exactly where a call on it failed. One that isn't known has failed a call, or begins as the label of a plain array; only a member that is too
-- short for a header is known though it does.
pub record LeavesOpening {S : Type 0} (rack : Ghosts S) (known fell : ℕ → Bool) (old new : S) : Type 0 where
  pub made : Makes rack IsOpening old new
  pub same_rack : rack.name new ≡ rack.name old
  pub steady_on : rack.steady old ↔ rack.steady new
  pub tells : StillTold (rack.bytes old) (rack.bytes new)
  pub rise : CountsRise (rack.counts old) (rack.counts new)
  pub low : (q : ℕ) → known q ≡ true → q < 32
  pub lost : (q : ℕ) → q < 32 → known q ≡ false → (fell q ≡ true) ⊎ IsLabeledOn rack q old new
  pub bare : (q : ℕ) → known q ≡ true → Told (λ before after. IsBareLabeled q before) (rack.bytes old q) (rack.bytes new q)
  pub rose : (q : ℕ) → fell q ≡ true → Rose ((rack.counts old).faults q) ((rack.counts new).faults q)
  pub quiet : (q : ℕ) → fell q ≡ false → (rack.counts new).faults q ≡ (rack.counts old).faults q

-- a call on a member failed just where it has a mark
pub record AreFailed {S : Type 0} (rack : Ghosts S) (failed : List Bool) (old new : S) : Type 0 where
  pub rose : (q : ℕ) → flag_in failed q ≡ true → Rose ((rack.counts old).faults q) ((rack.counts new).faults q)
  pub quiet : (q : ℕ) → flag_in failed q ≡ false → (rack.counts new).faults q ≡ (rack.counts old).faults q

-- It is plain: no member on which no call failed has a header, nothing was written, and there are no extra bytes.
pub record OpensPlain {S : Type 0} (rack : Ghosts S) (extra : List ℕ) (old new : S) : Type 0 where
  pub known : ℕ → Bool
  pub fell : ℕ → Bool
  pub leaves : LeavesOpening rack known fell old new
  pub same : (q : ℕ) → Told IsSame (rack.bytes old q) (rack.bytes new q)
  pub writes : (rack.counts new).writes ≡ (rack.counts old).writes
  pub none : (q : ℕ) → known q ≡ true → IfSome (rack.bytes new q) (HasNoHeader q)
  pub extra_is : extra ≡ []

-- a known member had a header
pub record HasSome {S : Type 0} (rack : Ghosts S) (known : ℕ → Bool) (old new : S) : Type 0 where
  pub member : ℕ
  pub header : Header
  pub is_known : known member ≡ true
  pub had : HadHeader rack member header old new

-- a header of commit c that the member had was written as a committed one
pub record IsUpgraded (c q : ℕ) (before after : List ℕ) : Type 0 where
  pub header : Header
  pub had : HasHeader q before header
  pub sequence : header.sequence ≡ c
  pub wrote : WritesHeader (as_committed header) before after

-- no more than that was written
abbrev pub MayUpgrade : ℕ → ℕ → List ℕ → List ℕ → Type 0
MayUpgrade c q before after = (after ≡ before) ⊎ IsUpgraded c q before after

-- member r is q, or its partner
abbrev pub IsOfPair : ℕ → ℕ → Type 0
IsOfPair q r = (r ≡ q) ⊎ (r ≡ partner_of q)

-- the members stand that the last commit attaches, and its extra bytes are given
pub record GivesLast (memory : Memory) (extra : List ℕ) (c : ℕ) (lead : Header) : Type 0 where
  pub room : memory.room ≡ lead.room
  pub commit : memory.commit ≡ c
  pub extra_is : length extra ≡ lead.extra

-- no commit was made, and no member stands
pub record GivesNothing (memory : Memory) (extra : List ℕ) : Type 0 where
  pub stands : (q : ℕ) → stands_in memory q ≡ false
  pub room : memory.room ≡ 0
  pub commit : memory.commit ≡ 0
  pub extra_is : extra ≡ []

-- The members hold what they are reopened as, and its extra bytes are given: each that stands has the bytes of its entry, and each that neither stands
-- nor fell has none.
pub record GivesKept {R : Type 0} (rack : Ghosts R) (it : Double R) (extra : List ℕ) (kept : Kept) : Type 0 where
  pub extra_is : extra ≡ kept.extra
  pub entries : (q : ℕ) → stands_in it.memory q ≡ true → kept.entries q ≡ double_bytes rack it q
  pub none : (q : ℕ) → stands_in it.memory q ≡ false → fell_in it.memory q ≡ false → kept.entries q ≡ None

-- the headers of the last commit are of one
abbrev pub IsOfOne : (ℕ → List ℕ) → Kept → Type 0
IsOfOne all kept = (c q : ℕ) (lead : Header) → IsLast all c → Leads all c q lead → AreOfOne c lead kept.extra all

-- What an opening gives where the bytes of the known members are told in the end.
pub record GivesTold {R : Type 0} (rack : Ghosts R) (it : Double R) (extra : List ℕ) (before after : ℕ → List ℕ) : Type 0 where
  pub most : (q : ℕ) (h : Header) → HasHeader q (before q) h → h.sequence ≤ it.memory.top
  pub nothing : NoneCommitted before → GivesNothing it.memory extra
  pub last : (c q : ℕ) (lead : Header) → IsLast before c → Leads before c q lead → GivesLast it.memory extra c lead
  pub kept : (kept : Kept) → Reopened before kept → GivesKept rack it extra kept
  pub stays : rack.steady it.rack → (kept : Kept) → Reopened before kept → Reopened after kept

-- the headers of one sequence say the same room and the same number of extra bytes
abbrev pub SayTheSame : (ℕ → List ℕ) → Type 0
SayTheSame all = (q r : ℕ) (h k : Header) → HasHeader q (all q) h → HasHeader r (all r) k → h.sequence ≡ k.sequence → (h.room ≡ k.room) × (h.extra ≡ k.extra)

-- what members are reopened as stays
pub record SparesAll (before after : ℕ → List ℕ) : Type 0 where
  pub nothing : NoneCommitted before → (kept : Kept) → Reopened before kept → Reopened after kept
  pub last : SayTheSame before → (c first : ℕ) (lead : Header) → IsLast before c → Leads before c first lead
      → (kept : Kept) → Reopened before kept → Reopened after kept

-- It is double over what is left of the rack behind, with counts of its own.
pub record OpensDouble {R : Type 0} (rack : Ghosts R) (old : R) (it : Double R) (extra : List ℕ) : Type 0 where
  pub leaves : LeavesOpening rack (known_in it.memory) (fell_in it.memory) old it.rack
  pub tally : HasNoCalls it.tally
  pub standing : (q : ℕ) → stands_in it.memory q ≡ true → (known_in it.memory q ≡ true) × (fell_in it.memory q ≡ false)
  -- a member that neither stands nor fell has no bytes
  pub bare : (q : ℕ) → stands_in it.memory q ≡ false → fell_in it.memory q ≡ false → sizes_in it.memory q ≡ 0
  pub some : HasSome rack (known_in it.memory) old it.rack
  pub top : IsSeen rack it.memory.top old it.rack
  -- only headers of the last commit were written
  pub pages : (q : ℕ) → Told (SamePages (table_size (sizes_in it.memory q) it.memory.room)) (rack.bytes old q) (rack.bytes it.rack q)
  pub written : rack.steady old → (q : ℕ) → Told (MayUpgrade it.memory.commit q) (rack.bytes old q) (rack.bytes it.rack q)
  -- a member as long as the longest that stands fits in place of each that stands, and of its partner
  pub roomy : (p q r : ℕ) → stands_in it.memory p ≡ true → stands_in it.memory q ≡ true → IsOfPair q r → IsTooLong it.memory r (sizes_in it.memory p) → ⊥
  pub gives : TellsKnown (known_in it.memory) (rack.bytes it.rack)
      → GivesTold rack it extra (known_at (known_in it.memory) (rack.bytes old)) (known_at (known_in it.memory) (rack.bytes it.rack))
  -- what any more members are reopened as stays, whatever calls on them failed
  pub spares : rack.steady old → (wide : ℕ → Bool) → ((q : ℕ) → known_in it.memory q ≡ true → wide q ≡ true) → TellsKnown wide (rack.bytes it.rack)
      → SparesAll (known_at wide (rack.bytes old)) (known_at wide (rack.bytes it.rack))
  -- what the known members are reopened as is kept
  pub keeps_none : rack.steady old → double_keeps rack it None
  pub keeps : rack.steady old → (kept : Kept)
      → (TellsAll (rack.bytes it.rack) → Reopened (known_at (known_in it.memory) (rack.bytes old)) kept × IsOfOne (known_at (known_in it.memory) (rack.bytes old)) kept)
      → double_keeps rack it (Some kept)

abbrev pub Opens : {R : Type 0} → Ghosts R → R → StopRack R → List ℕ → Type 0
Opens rack old (Plain it) extra = OpensPlain rack extra old it
Opens rack old (Doubled it) extra = OpensDouble rack old it extra
