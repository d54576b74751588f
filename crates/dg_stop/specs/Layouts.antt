-- How a double member is laid out: two headers, two tables, and pages of 512 bytes with two places each.
use Rattle.std.specs.Prelude.{◌≡◌, ◌≤◌, ◌+◌, ◌*◌, ◌/◌, ◌%◌, ◌==◌, ℕ, Bool, List, length, map, if◌then◌else◌, slice_index}
use Rattle.std.specs.List.{range_with_len}
use Rattle.std.specs.Int.{bit_at}

-- bytes of a page
abbrev pub pages_of : ℕ → ℕ
pages_of size = (size + 511) / 512

-- bytes of the bits of a table, one bit for each page
abbrev pub bits_of : ℕ → ℕ
bits_of size = (pages_of size + 7) / 8

-- bytes of a table of a member with so many bytes and so much room, rounded up to whole pages
abbrev pub table_size : ℕ → ℕ → ℕ
table_size size room = (bits_of size + room + 511) / 512 * 512

-- where the header of a sequence stands
abbrev pub header_place : ℕ → ℕ
header_place c = 512 * (c % 2)

-- where the table of a sequence stands
abbrev pub table_place : ℕ → ℕ → ℕ
table_place t c = 1024 + c % 2 * t

-- where one of the two places of a page begins
abbrev pub page_place : ℕ → ℕ → Bool → ℕ
page_place t p second = 1024 + 2 * t + 1024 * p + (if second then 512 else 0)

-- bytes of a double member
abbrev pub double_size : ℕ → ℕ → ℕ
double_size size room = 1024 + 2 * table_size size room + 1024 * pages_of size

-- whether the bit of page p is set
abbrev pub bit_in : List ℕ → ℕ → Bool
bit_in bits p = bit_at (slice_index bits (p / 8)) (p % 8) == 1

-- whether the table at a place names the second place of page p
abbrev pub names_second : List ℕ → ℕ → ℕ → Bool
names_second all place p = bit_at (slice_index all (place + p / 8)) (p % 8) == 1

-- where byte o of the member stands, where its pages have these places
abbrev pub spot : ℕ → (ℕ → Bool) → ℕ → ℕ
spot t places o = page_place t (o / 512) (places (o / 512)) + o % 512

-- the bytes that the places name
unfoldable pub seen : ℕ → (ℕ → Bool) → ℕ → List ℕ → List ℕ
seen t places size all = map (λ (o : ℕ). slice_index all (spot t places o)) (range_with_len 0 size)

-- the bytes behind the tables are as they were: no page changed in either of its places
pub record SamePages (t : ℕ) (before after : List ℕ) : Type 0 where
  pub size : length after ≡ length before
  pub bytes : (i : ℕ) → 1024 + 2 * t ≤ i → slice_index after i ≡ slice_index before i
