-- What a change of the members' bytes leaves of what they are reopened as.
use Rattle.std.specs.Prelude.{◌≡◌, ◌≤◌, ◌<◌, ◌+◌, ◌⊎◌, ℕ, true, List, Some, None}
use Rattle.dg_io.specs.Kept.{Kept}
use Rattle.dg_stop.specs.Headers.{Header, HasHeader, entry_of, extra_of, header_table}
use Rattle.dg_stop.specs.Layouts.{header_place, table_place, spot, names_second}

-- No header was committed, and the headers of c are those that were there and name the same bytes.
pub record Spares (c : ℕ) (before after : ℕ → List ℕ) : Type 0 where
  pub committed : (q : ℕ) (h : Header) → HasHeader q (after q) h → h.committed ≡ true → HasHeader q (before q) h
  pub on : (q : ℕ) (h : Header) → HasHeader q (before q) h → h.sequence ≡ c → HasHeader q (after q) h
  pub back : (q : ℕ) (h : Header) → HasHeader q (after q) h → h.sequence ≡ c → HasHeader q (before q) h
  pub entry : (q : ℕ) (h : Header) → HasHeader q (before q) h → h.sequence ≡ c → entry_of h (after q) ≡ entry_of h (before q)
  pub extra : (q : ℕ) (h : Header) → HasHeader q (before q) h → h.sequence ≡ c → extra_of h (after q) ≡ extra_of h (before q)

-- Each header of commit s has this room and this extra, and names the bytes that its member had. No sequence is above s.
pub record Completes (s room : ℕ) (extra : List ℕ) (count : ℕ) (target : ℕ → List ℕ) (all : ℕ → List ℕ) : Type 0 where
  pub most : (q : ℕ) (h : Header) → HasHeader q (all q) h → h.sequence ≤ s
  pub room_is : (q : ℕ) (h : Header) → HasHeader q (all q) h → h.sequence ≡ s → h.room ≡ room
  pub count_is : (q : ℕ) (h : Header) → HasHeader q (all q) h → h.sequence ≡ s → h.extra ≡ count
  pub entry : (q : ℕ) (h : Header) → HasHeader q (all q) h → h.sequence ≡ s → entry_of h (all q) ≡ target q
  pub extra_is : (q : ℕ) (h : Header) → HasHeader q (all q) h → h.sequence ≡ s → extra_of h (all q) ≡ extra

-- the members that have a header of s are those of the checkpoint
pub record Names (s : ℕ) (extra : List ℕ) (target : ℕ → List ℕ) (all : ℕ → List ℕ) (kept : Kept) : Type 0 where
  pub has : (q : ℕ) (h : Header) → HasHeader q (all q) h → h.sequence ≡ s → kept.entries q ≡ Some (target q)
  pub hasnt : (q : ℕ) → ((h : Header) → HasHeader q (all q) h → h.sequence ≡ s → ⊥) → kept.entries q ≡ None
  pub extra_is : kept.extra ≡ extra

-- a write in this range touches nothing that the header names
pub record Avoids (h : Header) (all : List ℕ) (place n : ℕ) : Type 0 where
  pub header : (place + n ≤ header_place h.sequence) ⊎ (header_place h.sequence + 512 ≤ place)
  pub table : (place + n ≤ table_place (header_table h) h.sequence) ⊎ (table_place (header_table h) h.sequence + header_table h ≤ place)
  pub pages : (o : ℕ) → o < h.size
      → (spot (header_table h) (names_second all (table_place (header_table h) h.sequence)) o < place)
      ⊎ (place + n ≤ spot (header_table h) (names_second all (table_place (header_table h) h.sequence)) o)
