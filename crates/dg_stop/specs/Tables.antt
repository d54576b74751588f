-- The tables that an opening reads.
use Rattle.std.specs.Prelude.{◌≡◌, ◌≤◌, ◌<◌, ◌^◌, ◌⊎◌, ℕ, true, false, List, [], Option, Some, None, Bool, IfSome, IsSome, length, slice_get, slice_index_or, slice_set}
use Rattle.dg_io.specs.Told.{IsSame, Told}
use Rattle.dg_io.specs.declared.outside.Rack.{Ghosts}
use Rattle.dg_model.specs.Members.{partner_of}
use Rattle.dg_stop.specs.Commits.{IsPlaced}
use Rattle.dg_stop.specs.FoundHeaders.{AreFound, Bears, found_at, no_headers}
use Rattle.dg_stop.specs.Headers.{extra_of}
use Rattle.dg_stop.specs.Layouts.{bit_in, bits_of}
use Rattle.dg_stop.specs.Leads.{IsAttachedBy}
use Rattle.dg_stop.specs.Values.{header_of}
use Rattle.dg_stop.specs.declared.found_headers.Found.{Found}
use Rattle.dg_stop.specs.declared.headers.Header.{Header}
use Rattle.dg_stop.specs.declared.places.Places.{Places}

-- the header by which member q is attached, if it is
abbrev pub head_at : List (Option Header) → ℕ → Option Header
head_at heads q = slice_index_or heads q None

-- these are the headers by which the members below n are attached
abbrev pub AreHeads : Header → List Found → ℕ → List (Option Header) → Type 0
AreHeads lead found n heads = (q : ℕ) → q < n → IsAttachedBy lead (found_at found q) (head_at heads q)

-- each of them counts on its member
abbrev pub AreBorne : {S : Type 0} → Ghosts S → List (Option Header) → S → Type 0
AreBorne rack heads now = (q : ℕ) (h : Header) → head_at heads q ≡ Some h → (q < 32) × Bears rack q now h

-- no member is longer
abbrev pub AreShort : List (Option Header) → ℕ → Type 0
AreShort heads most = (q : ℕ) (h : Header) → head_at heads q ≡ Some h → h.size ≤ most

-- calls that changed nothing, and of which none failed
pub record FindsOn {S : Type 0} (rack : Ghosts S) (old new : S) : Type 0 where
  pub same : (q : ℕ) → Told IsSame (rack.bytes old q) (rack.bytes new q)
  pub on : (found : List Found) (known failed : List Bool) (first : S) → AreFound rack 32 found known failed first old → AreFound rack 32 found known failed first new

-- calls that changed nothing, the last of which failed, on this member
pub record LosesOn {S : Type 0} (rack : Ghosts S) (q : ℕ) (old new : S) : Type 0 where
  pub same : (q : ℕ) → Told IsSame (rack.bytes old q) (rack.bytes new q)
  pub low : q < 32
  pub on : (found : List Found) (known failed : List Bool) (first : S) → length found ≡ 32 → length known ≡ 32 → length failed ≡ 32 → AreFound rack 32 found known failed first old
      → AreFound rack 32 (slice_set found q no_headers) (slice_set known q false) (slice_set failed q true) first new

-- what is kept in memory of a member that is attached by this header: where its pages stand by the header's table
pub record HasTable {S : Type 0} (rack : Ghosts S) (now : S) (h : Header) (q : ℕ) (held : Places) : Type 0 where
  pub size : held.size ≡ h.size
  pub small : h.size < 2 ^ 48
  pub bits : length held.bits.items ≡ bits_of h.size
  pub placed : IfSome (rack.bytes now q) (IsPlaced (header_of h) (bit_in held.bits.items))

-- and of a member that isn't
abbrev pub HoldsTable : {S : Type 0} → Ghosts S → S → Option Header → ℕ → Places → Type 0
HoldsTable rack now None q held = (held.size ≡ 0) × (held.bits.items ≡ [])
HoldsTable rack now (Some h) q held = HasTable rack now h q held

abbrev pub HoldsAt : {S : Type 0} → Ghosts S → S → List (Option Header) → List Places → ℕ → Type 0
HoldsAt rack now heads all q = (held : Places) → slice_get all q ≡ Some held → HoldsTable rack now (head_at heads q) q held

-- it is attached, or its partner is
abbrev pub IsPaired : List (Option Header) → ℕ → Type 0
IsPaired heads q = IsSome (head_at heads q) ⊎ IsSome (head_at heads (partner_of q))

-- there is memory for so many bytes on each member that is attached, and on its partner
abbrev pub AreRoomy : List (Option Header) → ℕ → List Places → Type 0
AreRoomy heads most all = (q : ℕ) (held : Places) → slice_get all q ≡ Some held → IsPaired heads q → held.most ≡ most

-- a call on a member that is attached failed
abbrev pub LosesHead : {S : Type 0} → Ghosts S → List (Option Header) → S → S → ℕ → Type 0
LosesHead rack heads old new q = LosesOn rack q old new × IsSome (head_at heads q)

-- the tables of all members, and memory for so many bytes; or the member on which a call failed
abbrev pub ReadsTables : {S : Type 0} → Ghosts S → List (Option Header) → ℕ → Option ℕ → List Places → S → S → Type 0
ReadsTables rack heads most None all old new =
    FindsOn rack old new × AreBorne rack heads new × (length all ≡ 32) × AreRoomy heads most all × ((q : ℕ) → HoldsAt rack new heads all q)
ReadsTables rack heads most (Some q) all old new = LosesHead rack heads old new q

-- the extra bytes of the commit of a header
abbrev pub HasExtra : {S : Type 0} → Ghosts S → S → Header → List ℕ → Type 0
HasExtra rack now h extra = (length extra ≡ h.extra) × IfSome (rack.bytes now h.member) (λ all. extra ≡ extra_of (header_of h) all)

-- it is the header of the least member that is attached
pub record IsFirstHead (heads : List (Option Header)) (h : Header) : Type 0 where
  pub member : ℕ
  pub at : head_at heads member ≡ Some h
  pub least : (q : ℕ) (k : Header) → head_at heads q ≡ Some k → member ≤ q

abbrev pub HasNoHead : List (Option Header) → Type 0
HasNoHead heads = (q : ℕ) (h : Header) → head_at heads q ≡ Some h → ⊥

-- the least member that is attached has these extra bytes
pub record ReadsFirst {S : Type 0} (rack : Ghosts S) (heads : List (Option Header)) (old new : S) (extra : List ℕ) : Type 0 where
  pub finds : FindsOn rack old new
  pub borne : AreBorne rack heads new
  pub some : HasNoHead heads ⊎ ((h : Header) × IsFirstHead heads h)
  pub has : (h : Header) → IsFirstHead heads h → HasExtra rack new h extra

-- each of them has less than 2^48 bytes
abbrev pub AreSmall : List (Option Header) → Type 0
AreSmall heads = (q : ℕ) (h : Header) → head_at heads q ≡ Some h → h.size < 2 ^ 48
