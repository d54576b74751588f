-- What an opening reads of the members: the headers that count, and the tables of the commit that leads.
use Rattle.std.specs.Prelude.{◌≡◌, ◌≤◌, ◌<◌, ◌^◌, ◌⊎◌, ℕ, Bool, List, Option, Some, None, length}
use Rattle.dg_io.specs.Told.{IsSame, Told}
use Rattle.dg_io.specs.declared.outside.Rack.{Ghosts}
use Rattle.dg_stop.specs.FoundHeaders.{AreFound, Bears, IsIn, found_at}
use Rattle.dg_stop.specs.Headers.{Header as Value, HasHeader, IsHeader}
use Rattle.dg_stop.specs.Leads.{IsLead}
use Rattle.dg_stop.specs.Tables.{AreBorne, AreHeads, AreRoomy, AreShort, HasExtra, HoldsAt, IsFirstHead, LosesOn}
use Rattle.dg_stop.specs.Values.{header_of}
use Rattle.dg_stop.specs.declared.found_headers.Found.{Found}
use Rattle.dg_stop.specs.declared.headers.Header.{Header}
use Rattle.dg_stop.specs.declared.readings.Reading.{Reading}
use Rattle.dg_stop.specs.declared.readings.Attached.{Attached}

-- each header that was found counts on its member, which stands
abbrev pub AreSound : {S : Type 0} → Ghosts S → List Found → S → Type 0
AreSound rack found now = (q : ℕ) (h : Header) → IsIn h (found_at found q) → (q < 32) × Bears rack q now h

-- The tables of the commit that leads: by which headers its members are attached, where their pages stand, and the extra bytes of the least of them.
pub record AreTables {S : Type 0} (rack : Ghosts S) (found : List Found) (now : S) (t : Attached) : Type 0 where
  pub leads : IsLead found (Some t.lead)
  pub lead : IsHeader (header_of t.lead)
  pub heads : AreHeads t.lead found 32 t.heads
  pub many : length t.heads ≡ 32
  pub borne : AreBorne rack t.heads now
  pub short : AreShort t.heads t.most
  pub small : t.most < 2 ^ 48
  pub count : length t.places.items ≡ 32
  pub roomy : AreRoomy t.heads t.most t.places.items
  pub holds : (q : ℕ) → HoldsAt rack now t.heads t.places.items q
  pub extra : length t.extra.items ≡ t.lead.extra
  pub some : (h : Header) × IsFirstHead t.heads h
  pub first : (h : Header) → IsFirstHead t.heads h → HasExtra rack now h t.extra.items

-- a call on a member that has headers failed
pub record LosesFound {S : Type 0} (rack : Ghosts S) (found : List Found) (old new : S) (q : ℕ) : Type 0 where
  pub loses : LosesOn rack q old new
  pub header : Header
  pub is : IsIn header (found_at found q)

-- What calls that read leave of what was found, where a call that fails takes its member's headers away.
pub record ReadsOn {S : Type 0} (rack : Ghosts S) (found : List Found) (known failed : List Bool) (old : S) (later : List Found) (knows fails : List Bool) (new : S) : Type 0 where
  pub on : (first : S) → AreFound rack 32 found known failed first old → AreFound rack 32 later knows fails first new
  pub only : (q : ℕ) (h : Header) → IsIn h (found_at later q) → IsIn h (found_at found q)
  pub same : (q : ℕ) → Told IsSame (rack.bytes old q) (rack.bytes new q)

-- the tables of the commit that leads, or none where no header is committed
abbrev pub HasTables : {S : Type 0} → Ghosts S → List Found → S → Option Attached → Type 0
HasTables rack found now None = IsLead found None
HasTables rack found now (Some t) = AreTables rack found now t

-- some header was found
pub record FoundSome (found : List Found) : Type 0 where
  pub member : ℕ
  pub header : Header
  pub is : IsIn header (found_at found member)

-- ---- the greatest sequence

-- a member had this header at first, where its bytes are told in the end
abbrev pub HadHeader : {S : Type 0} → Ghosts S → ℕ → Value → S → S → Type 0
HadHeader rack q h old new = Told (λ before after. HasHeader q before h) (rack.bytes old q) (rack.bytes new q)

pub record HadSequence {S : Type 0} (rack : Ghosts S) (top : ℕ) (old new : S) : Type 0 where
  pub member : ℕ
  pub header : Value
  pub had : HadHeader rack member header old new
  pub sequence : header.sequence ≡ top

-- it is 0, or that of a header that a member had
abbrev pub IsSeen : {S : Type 0} → Ghosts S → ℕ → S → S → Type 0
IsSeen rack top old new = (top ≡ 0) ⊎ HadSequence rack top old new

-- ---- all that is read

-- the headers of the members on which no call failed, the greatest sequence that was seen, and the tables
pub record HasRead {S : Type 0} (rack : Ghosts S) (reading : Reading) (old new : S) : Type 0 where
  pub found : AreFound rack 32 reading.found reading.known reading.failed old new
  pub many : length reading.known ≡ 32
  pub most : (q : ℕ) (h : Header) → IsIn h (found_at reading.found q) → h.sequence ≤ reading.top
  pub seen : IsSeen rack reading.top old new
  pub tables : HasTables rack reading.found new reading.attached
