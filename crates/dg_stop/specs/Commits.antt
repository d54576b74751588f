-- The steps of a commit, member by member, and what must be true of the members before it.
use Rattle.std.specs.Prelude.{◌≡◌, ◌≢◌, ◌≤◌, ◌<◌, ◌/◌, ◌%◌, ◌⊎◌, ℕ, Bool, true, false, List}
use Rattle.dg_io.specs.Told.{patch}
use Rattle.dg_stop.specs.Headers.{Header, HasHeader, entry_of, extra_of, header_bytes, header_table}
use Rattle.dg_stop.specs.Layouts.{header_place, names_second, table_place}
use Rattle.dg_stop.specs.Reopens.{IsLast, NoneCommitted}

-- no commit was made, or one not below p was
abbrev pub IsFresh : (ℕ → List ℕ) → ℕ → Type 0
IsFresh all p = NoneCommitted all ⊎ ((c : ℕ) × IsLast all c × (p ≤ c))

-- What is known of the headers of the members, where p is the last commit, `top` the greatest sequence that was seen, and the places
-- of each member's pages in the last commit are `places`.
pub record AreGuarded (stands : ℕ → Bool) (sizes : ℕ → ℕ) (room : ℕ) (places : ℕ → ℕ → Bool) (p top : ℕ) (all : ℕ → List ℕ) : Type 0 where
  pub seen : (q : ℕ) (h : Header) → HasHeader q (all q) h → h.sequence ≤ top
  -- a standing member's header of p says what the array keeps in memory
  pub size : (q : ℕ) (h : Header) → stands q ≡ true → HasHeader q (all q) h → h.sequence ≡ p → h.size ≡ sizes q
  pub room_is : (q : ℕ) (h : Header) → stands q ≡ true → HasHeader q (all q) h → h.sequence ≡ p → h.room ≡ room
  pub mark : (q : ℕ) (h : Header) → stands q ≡ true → HasHeader q (all q) h → h.sequence ≡ p → h.committed ≡ true
  pub named : (q : ℕ) (h : Header) → stands q ≡ true → HasHeader q (all q) h → h.sequence ≡ p
      → (o : ℕ) → o < h.size → names_second (all q) (table_place (header_table h) p) (o / 512) ≡ places q (o / 512)
  -- a later commit than p, if there is one, has no standing member
  pub later : (q : ℕ) (h : Header) → stands q ≡ true → HasHeader q (all q) h
      → (r : ℕ) (k : Header) → HasHeader r (all r) k → k.committed ≡ true → k.sequence ≡ h.sequence → h.sequence ≤ p

-- What a step of commit s leaves of a member: each header but one of s was there, one of s is prepared, and the header of p names what
-- it named.
pub record Prepares (p s q : ℕ) (before after : List ℕ) : Type 0 where
  pub back : (h : Header) → HasHeader q after h → h.sequence ≢ s → HasHeader q before h
  pub mark : (h : Header) → HasHeader q after h → h.sequence ≡ s → h.committed ≡ false
  pub on : (h : Header) → HasHeader q before h → h.sequence ≡ p → HasHeader q after h
  pub entry : (h : Header) → HasHeader q before h → h.sequence ≡ p → entry_of h after ≡ entry_of h before
  pub extra : (h : Header) → HasHeader q before h → h.sequence ≡ p → extra_of h after ≡ extra_of h before
  pub names : (h : Header) → HasHeader q before h → h.sequence ≡ p → (o : ℕ) → o < h.size
      → names_second after (table_place (header_table h) h.sequence) (o / 512) ≡ names_second before (table_place (header_table h) h.sequence) (o / 512)

-- the standing members are prepared or as they were, and the others as they were
pub record ArePrepared (stands : ℕ → Bool) (p s : ℕ) (before after : ℕ → List ℕ) : Type 0 where
  pub standing : (q : ℕ) → stands q ≡ true → Prepares p s q (before q) (after q)
  pub rest : (q : ℕ) → stands q ≡ false → after q ≡ before q

-- a header of s on the member has these numbers, and names these bytes
pub record IsReady (s room count : ℕ) (extra target : List ℕ) (q : ℕ) (all : List ℕ) : Type 0 where
  pub most : (h : Header) → HasHeader q all h → h.sequence ≤ s
  pub room_is : (h : Header) → HasHeader q all h → h.sequence ≡ s → h.room ≡ room
  pub count_is : (h : Header) → HasHeader q all h → h.sequence ≡ s → h.extra ≡ count
  pub entry : (h : Header) → HasHeader q all h → h.sequence ≡ s → entry_of h all ≡ target
  pub extra_is : (h : Header) → HasHeader q all h → h.sequence ≡ s → extra_of h all ≡ extra

-- the same header, committed
abbrev pub as_committed : Header → Header
as_committed h = record { sequence = h.sequence; committed = true; member = h.member; size = h.size; room = h.room; extra = h.extra }

-- the header was written, or nothing was
abbrev pub WritesHeader : Header → List ℕ → List ℕ → Type 0
WritesHeader h before after = (after ≡ before) ⊎ (after ≡ patch before (header_place h.sequence) (header_bytes h))

-- the header was written
abbrev pub PutsHeader : Header → List ℕ → List ℕ → Type 0
PutsHeader h before after = after ≡ patch before (header_place h.sequence) (header_bytes h)

-- What is true of a member on which header h, whose sequence is s, is to be prepared: each sequence is below s, and the header of p, if
-- there is one, has the same layout and stands in the other place.
pub record IsOpenTo (p q : ℕ) (h : Header) (all : List ℕ) : Type 0 where
  pub apart : h.sequence % 2 ≢ p % 2
  pub low : (k : Header) → HasHeader q all k → k.sequence < h.sequence
  pub size : (k : Header) → HasHeader q all k → k.sequence ≡ p → k.size ≡ h.size
  pub room_is : (k : Header) → HasHeader q all k → k.sequence ≡ p → k.room ≡ h.room

-- no header of s is there
abbrev pub HasNone : ℕ → ℕ → List ℕ → Type 0
HasNone s q all = (h : Header) → HasHeader q all h → h.sequence ≡ s → ⊥

-- the member has header h, which names these bytes and this extra
pub record IsNamed (q : ℕ) (h : Header) (extra target all : List ℕ) : Type 0 where
  pub has : HasHeader q all h
  pub ready : IsReady h.sequence h.room h.extra extra target q all

-- each header that is there is below s
abbrev pub AreBelow : ℕ → ℕ → List ℕ → Type 0
AreBelow s q all = (k : Header) → HasHeader q all k → k.sequence < s

abbrev pub IsNamedOrNone : ℕ → Header → List ℕ → List ℕ → List ℕ → Type 0
IsNamedOrNone q h extra target all = HasNone h.sequence q all ⊎ IsNamed q h extra target all

-- the table that the header says names these places
abbrev pub IsPlaced : Header → (ℕ → Bool) → List ℕ → Type 0
IsPlaced h places all = (o : ℕ) → o < h.size → names_second all (table_place (header_table h) h.sequence) (o / 512) ≡ places (o / 512)
