-- What a double array is reopened as: the bytes of the members that the last commit has, and its extra bytes.
use Rattle.std.specs.Prelude.{◌≡◌, ◌≤◌, ℕ, true, List, [], Some, None}
use Rattle.dg_io.specs.Kept.{Kept}
use Rattle.dg_stop.specs.Headers.{Header, HasHeader, entry_of, extra_of}

-- a member has a committed header of this sequence
pub record IsCommitted (all : ℕ → List ℕ) (c : ℕ) (q : ℕ) (h : Header) : Type 0 where
  pub has : HasHeader q (all q) h
  pub sequence : h.sequence ≡ c
  pub mark : h.committed ≡ true

-- no member has a committed header
abbrev pub NoneCommitted : (ℕ → List ℕ) → Type 0
NoneCommitted all = (q : ℕ) (h : Header) → HasHeader q (all q) h → h.committed ≡ true → ⊥

-- the greatest sequence in a committed header
pub record IsLast (all : ℕ → List ℕ) (c : ℕ) : Type 0 where
  pub member : ℕ
  pub header : Header
  pub is : IsCommitted all c member header
  pub most : (q : ℕ) (h : Header) → HasHeader q (all q) h → h.committed ≡ true → h.sequence ≤ c

-- the least member that has a committed header of c
pub record Leads (all : ℕ → List ℕ) (c : ℕ) (q : ℕ) (h : Header) : Type 0 where
  pub is : IsCommitted all c q h
  pub least : (p : ℕ) (k : Header) → IsCommitted all c p k → q ≤ p

-- a member has a header of c with the room and the number of extra bytes that the lead says
pub record IsAttached (all : ℕ → List ℕ) (c : ℕ) (lead : Header) (q : ℕ) (h : Header) : Type 0 where
  pub has : HasHeader q (all q) h
  pub sequence : h.sequence ≡ c
  pub room : h.room ≡ lead.room
  pub extra : h.extra ≡ lead.extra

-- what commit c kept
pub record KeptBy (all : ℕ → List ℕ) (c : ℕ) (lead : Header) (kept : Kept) : Type 0 where
  pub attached : (q : ℕ) (h : Header) → IsAttached all c lead q h → kept.entries q ≡ Some (entry_of h (all q))
  pub others : (q : ℕ) → ((h : Header) → IsAttached all c lead q h → ⊥) → kept.entries q ≡ None
  pub extra : (q : ℕ) (h : Header) → IsAttached all c lead q h → ((p : ℕ) (k : Header) → IsAttached all c lead p k → q ≤ p)
      → kept.extra ≡ extra_of h (all q)

-- what the members are reopened as
pub record Reopened (all : ℕ → List ℕ) (kept : Kept) : Type 0 where
  pub nothing : NoneCommitted all → ((q : ℕ) → kept.entries q ≡ None) × (kept.extra ≡ [])
  pub last : (c q : ℕ) (lead : Header) → IsLast all c → Leads all c q lead → KeptBy all c lead kept
