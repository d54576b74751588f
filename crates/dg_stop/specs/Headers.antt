-- The header of a double member, and when bytes are one.
use Rattle.std.specs.Prelude.{◌≡◌, ◌≤◌, ◌<◌, ◌+◌, ◌^◌, ◌++◌, ◌⊎◌, ℕ, Bool, List, [], ◌∷◌, if◌then◌else◌, length, codes, slice_range, take}
use Rattle.byteorder.specs.Endian.{little_bytes}
use Rattle.dg_model.specs.Blocks.{padded}
use Rattle.dg_stop.specs.Layouts.{bits_of, double_size, header_place, names_second, seen, table_place, table_size}

-- The number of a commit; whether it is committed, or only prepared; whose header it is; the bytes of the member, the room for extra
-- bytes, and how many there are.
pub record Header : Type 0 where
  pub sequence : ℕ
  pub committed : Bool
  pub member : ℕ
  pub size : ℕ
  pub room : ℕ
  pub extra : ℕ

abbrev pub mark_byte : Bool → ℕ
mark_byte committed = if committed then 0x43 else 0x50

unfoldable pub header_bytes : Header → List ℕ
header_bytes h =
    padded 512
    (codes "DGRAID-S" ++ little_bytes 8 h.sequence ++ mark_byte h.committed ∷ h.member ∷ 0 ∷ 0 ∷ 0 ∷ 0 ∷ 0 ∷ 0 ∷ []
    ++ little_bytes 8 h.size ++ little_bytes 4 h.room ++ little_bytes 4 h.extra)

-- the bytes begin as the label of a plain array does
abbrev pub IsLabeled : List ℕ → Type 0
IsLabeled all = (take 8 all ≡ codes "DGRAID-1") ⊎ (take 8 all ≡ codes "DGRAID-2")

-- numbers that a header may have
pub record IsHeader (h : Header) : Type 0 where
  pub first : 1 ≤ h.sequence
  pub last : h.sequence < 2 ^ 62
  pub fits : h.extra ≤ h.room
  pub sizes : h.size < 2 ^ 64
  pub rooms : h.room < 2 ^ 32
  pub members : h.member < 2 ^ 8

-- the header counts on member q, which has these bytes
pub record HasHeader (q : ℕ) (all : List ℕ) (h : Header) : Type 0 where
  pub is : IsHeader h
  pub own : h.member ≡ q
  pub bytes : slice_range all (header_place h.sequence) (header_place h.sequence + 512) ≡ header_bytes h
  pub long : length all ≡ double_size h.size h.room

abbrev pub HasNoHeader : ℕ → List ℕ → Type 0
HasNoHeader q all = (h : Header) → HasHeader q all h → ⊥

-- where the bytes begin as a label, no header counts
abbrev pub IsBareLabeled : ℕ → List ℕ → Type 0
IsBareLabeled q all = IsLabeled all → HasNoHeader q all

-- the bytes of a table
abbrev pub header_table : Header → ℕ
header_table h = table_size h.size h.room

-- the bytes of the member that the header's table names
abbrev pub entry_of : Header → List ℕ → List ℕ
entry_of h all = seen (header_table h) (names_second all (table_place (header_table h) h.sequence)) h.size all

-- the extra bytes that stand behind its bits
abbrev pub extra_of : Header → List ℕ → List ℕ
extra_of h all =
    slice_range all (table_place (header_table h) h.sequence + bits_of h.size) (table_place (header_table h) h.sequence + bits_of h.size + h.extra)
