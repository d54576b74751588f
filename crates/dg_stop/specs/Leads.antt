-- Which header leads an opening, and which members have one of its commit.
use Rattle.std.specs.Prelude.{◌≡◌, ◌≤◌, ◌<◌, ◌⊎◌, ℕ, true, false, List, Option, Some, None}
use Rattle.dg_stop.specs.FoundHeaders.{IsIn, found_at}
use Rattle.dg_stop.specs.declared.found_headers.Found.{Found}
use Rattle.dg_stop.specs.declared.headers.Header.{Header}

-- Of some headers, by member: this is the committed one with the greatest sequence, of the least member that has it.
pub record IsBest (has : ℕ → Header → Type 0) (best : Header) : Type 0 where
  pub member : ℕ
  pub is : has member best
  pub mark : best.committed ≡ true
  pub most : (q : ℕ) (h : Header) → has q h → h.committed ≡ true → h.sequence ≤ best.sequence
  pub least : (q : ℕ) (h : Header) → has q h → h.committed ≡ true → h.sequence ≡ best.sequence → member ≤ q

-- or none where none of them is committed
abbrev pub IsBestOf : (ℕ → Header → Type 0) → Option Header → Type 0
IsBestOf has None = (q : ℕ) (h : Header) → has q h → h.committed ≡ true → ⊥
IsBestOf has (Some best) = IsBest has best

-- the headers that were found on the members below n
pub record IsBelow (found : List Found) (n : ℕ) (q : ℕ) (h : Header) : Type 0 where
  pub low : q < n
  pub is : IsIn h (found_at found q)

-- the header that leads
abbrev pub IsLead : List Found → Option Header → Type 0
IsLead found lead = IsBestOf (IsBelow found 32) lead

-- a header is greater than this one, if there is one
abbrev pub IsAfter : Option Header → Header → Type 0
IsAfter None h = Unit {0}
IsAfter (Some best) h = best.sequence < h.sequence

abbrev pub IsNotAfter : Option Header → Header → Type 0
IsNotAfter None h = ⊥
IsNotAfter (Some best) h = h.sequence ≤ best.sequence

-- it takes the place of this one
pub record Takes (best later : Option Header) (h : Header) : Type 0 where
  pub is : later ≡ Some h
  pub mark : h.committed ≡ true
  pub after : IsAfter best h

-- or doesn't
pub record Stays (best later : Option Header) (h : Header) : Type 0 where
  pub is : later ≡ best
  pub isnt : (h.committed ≡ false) ⊎ IsNotAfter best h

-- the better one of a header and one more, where there is one
abbrev pub IsLater : Option Header → Option Header → Option Header → Type 0
IsLater best None later = later ≡ best
IsLater best (Some h) later = Takes best later h ⊎ Stays best later h

-- ---- the greatest sequence

pub record IsAttained (has : ℕ → Header → Type 0) (top : ℕ) : Type 0 where
  pub member : ℕ
  pub header : Header
  pub is : has member header
  pub sequence : header.sequence ≡ top

-- of some headers this is the greatest sequence, or 0 where there is none
pub record IsTop (has : ℕ → Header → Type 0) (top : ℕ) : Type 0 where
  pub most : (q : ℕ) (h : Header) → has q h → h.sequence ≤ top
  pub some : (top ≡ 0) ⊎ IsAttained has top

abbrev pub IsTopOf : List Found → ℕ → Type 0
IsTopOf found top = IsTop (IsBelow found 32) top

-- the greater of a number and a header's sequence
abbrev pub IsRaised : ℕ → Option Header → ℕ → Type 0
IsRaised top None raised = raised ≡ top
IsRaised top (Some h) raised = (top ≤ raised) × (h.sequence ≤ raised) × ((raised ≡ top) ⊎ (raised ≡ h.sequence))

-- ---- the headers of a commit

-- the header is of the lead's commit, and says the same room and extra bytes
pub record IsAlike (lead h : Header) : Type 0 where
  pub sequence : h.sequence ≡ lead.sequence
  pub room : h.room ≡ lead.room
  pub extra : h.extra ≡ lead.extra

-- and was found on a member
pub record IsOfLead (lead : Header) (found : Found) (h : Header) : Type 0 where
  pub is : IsIn h found
  pub alike : IsAlike lead h

-- the header of a member by which it is attached, if there is one
abbrev pub IsAttachedBy : Header → Found → Option Header → Type 0
IsAttachedBy lead found None = (h : Header) → IsOfLead lead found h → ⊥
IsAttachedBy lead found (Some h) = IsOfLead lead found h
