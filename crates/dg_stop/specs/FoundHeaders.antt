-- The headers that stand on a member.
use Rattle.std.specs.Prelude.{◌≡◌, ◌≤◌, ◌<◌, ◌%◌, ◌^◌, ◌⊎◌, ◌↔◌, ℕ, Bool, true, false, List, Option, Some, None, IfSome, Result, length, slice_index_or}
use Rattle.dg_io.specs.Makes.{Makes}
use Rattle.dg_io.specs.RackCalls.{RackCall}
use Rattle.dg_io.specs.RackCalls.RackCall.{looks, calls}
use Rattle.dg_io.specs.Told.{IsSame, StillTold, Told}
use Rattle.dg_io.specs.declared.outside.Rack.{Ghosts}
use Rattle.dg_model.specs.Causes.{Rose}
use Rattle.dg_stop.specs.Headers.{Header as Value, HasHeader, IsBareLabeled, IsHeader, IsLabeled, header_bytes}
use Rattle.dg_stop.specs.Layouts.{double_size}
use Rattle.dg_stop.specs.Phases.{flag_in}
use Rattle.dg_stop.specs.Serving.{Serves}
use Rattle.dg_stop.specs.Values.{header_of}
use Rattle.dg_stop.specs.declared.found_headers.Found.{Found}
use Rattle.dg_stop.specs.declared.headers.Header.{Header}

-- the header counts in place k, 0 or 1, of member q, which has so many bytes
pub record IsCounted (k q size : ℕ) (h : Value) : Type 0 where
  pub is : IsHeader h
  pub place : h.sequence % 2 ≡ k
  pub own : h.member ≡ q
  pub long : size ≡ double_size h.size h.room

-- and these are its bytes
pub record IsPage (k q size : ℕ) (page : List ℕ) (h : Value) : Type 0 where
  pub counted : IsCounted k q size h
  pub bytes : page ≡ header_bytes h

-- numbers that a header has in its bytes, in range
pub record HasRange (h : Value) : Type 0 where
  pub sequences : h.sequence < 2 ^ 64
  pub members : h.member < 2 ^ 8
  pub sizes : h.size < 2 ^ 64
  pub rooms : h.room < 2 ^ 32
  pub extras : h.extra < 2 ^ 32

-- the header whose bytes these are, or none where they are no header's
pub record IsPageOf (page : List ℕ) (read : Option Header) : Type 0 where
  pub header : (h : Header) → HasRange (header_of h) → page ≡ header_bytes (header_of h) → read ≡ Some h
  pub only : IfSome read (λ h. page ≡ header_bytes (header_of h))

-- what is read of a page: the header that counts there, or none where there is none
pub record IsReading (k q size : ℕ) (page : List ℕ) (read : Option Header) : Type 0 where
  pub header : (h : Header) → IsPage k q size page (header_of h) → read ≡ Some h
  pub only : IfSome read (λ h. IsPage k q size page (header_of h))

-- ---- the headers of a member

abbrev pub no_headers : Found
no_headers = record { first = None; second = None }

-- what was found on member q
abbrev pub found_at : List Found → ℕ → Found
found_at found q = slice_index_or found q no_headers

-- it is one of those that were found
abbrev pub IsIn : Header → Found → Type 0
IsIn h found = (found.first ≡ Some h) ⊎ (found.second ≡ Some h)

-- those that were found are the headers that count on member q, which has these bytes
abbrev pub AreHeadersOf : ℕ → Found → List ℕ → Type 0
AreHeadersOf q found all = (h : Header) → IsIn h found ↔ HasHeader q all (header_of h)

-- member q stands, and has the length that its header says
pub record Bears {S : Type 0} (rack : Ghosts S) (q : ℕ) (now : S) (h : Header) : Type 0 where
  pub is : IsHeader (header_of h)
  pub own : h.member ≡ q
  pub stands : rack.stands now q ≡ true
  pub long : IfSome (rack.bytes now q) (λ all. length all ≡ double_size h.size h.room)

-- those that were found are the headers of member q, which has none where it begins as a label, and it stands where there is one
pub record AreOn {S : Type 0} (rack : Ghosts S) (q : ℕ) (now : S) (found : Found) : Type 0 where
  pub headers : IfSome (rack.bytes now q) (AreHeadersOf q found)
  pub bare : IfSome (rack.bytes now q) (IsBareLabeled q)
  pub bears : (h : Header) → IsIn h found → Bears rack q now h

-- what is found of member q where no call fails: its headers, or none where it begins as a label
abbrev pub IsSeenOn : {S : Type 0} → Ghosts S → ℕ → S → Option Found → Type 0
IsSeenOn rack q now None = IfSome (rack.bytes now q) IsLabeled
IsSeenOn rack q now (Some found) = AreOn rack q now found

-- ---- calls that look

-- a call that looks for member q, or reads it
abbrev pub IsLook : ℕ → RackCall → Type 0
IsLook q call = (call ≡ looks q) ⊎ (call ≡ calls q)

-- what calls that only look at member q leave, with their answer
pub record LooksAt {S T E : Type 0} (rack : Ghosts S) (q : ℕ) (result : Result T E) (old new : S) : Type 0 where
  pub made : Makes rack (IsLook q) old new
  pub serves : Serves rack q result old new
  pub same : Told IsSame (rack.bytes old q) (rack.bytes new q)
  pub writes : (rack.counts new).writes ≡ (rack.counts old).writes

-- a call of one of the members below 32
pub record IsOpening (call : RackCall) : Type 0 where
  pub member : ℕ
  pub low : member < 32
  pub is : IsLook member call

-- What was found of member q: its headers; or that a call on it failed, or that it begins as a label, and then it isn't known.
pub record IsFound {S : Type 0} (rack : Ghosts S) (q : ℕ) (found : Found) (known failed : Bool) (old now : S) : Type 0 where
  pub same : Told IsSame (rack.bytes old q) (rack.bytes now q)
  pub on : known ≡ true → AreOn rack q now found
  pub none : known ≡ false → (h : Header) → IsIn h found → ⊥
  pub lost : known ≡ false → (failed ≡ true) ⊎ IfSome (rack.bytes now q) IsLabeled
  pub unknown : failed ≡ true → known ≡ false
  pub rose : failed ≡ true → Rose ((rack.counts old).faults q) ((rack.counts now).faults q)
  pub quiet : failed ≡ false → (rack.counts now).faults q ≡ (rack.counts old).faults q

-- a member that wasn't called
pub record IsPassed {S : Type 0} (rack : Ghosts S) (q : ℕ) (found : Found) (old now : S) : Type 0 where
  pub same : Told IsSame (rack.bytes old q) (rack.bytes now q)
  pub none : (h : Header) → IsIn h found → ⊥
  pub faults : (rack.counts now).faults q ≡ (rack.counts old).faults q

-- the members below n were looked at
pub record AreFound {S : Type 0} (rack : Ghosts S) (n : ℕ) (found : List Found) (known failed : List Bool) (old now : S) : Type 0 where
  pub made : Makes rack IsOpening old now
  pub steady_on : rack.steady old ↔ rack.steady now
  pub tells : StillTold (rack.bytes old) (rack.bytes now)
  pub writes : (rack.counts now).writes ≡ (rack.counts old).writes
  pub below : (q : ℕ) → q < n → IsFound rack q (found_at found q) (flag_in known q) (flag_in failed q) old now
  pub rest : (q : ℕ) → n ≤ q → IsPassed rack q (found_at found q) old now
  pub flags : (q : ℕ) → n ≤ q → q < 32 → flag_in known q ≡ true
  pub unfailed : (q : ℕ) → n ≤ q → flag_in failed q ≡ false
