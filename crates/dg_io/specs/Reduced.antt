-- A rack whose boundaries are fewer: those that are left have new places.
use Rattle.std.specs.Prelude.{◌≡◌, ◌↔◌, ◌+◌, ◌*◌, ◌/◌, ◌%◌, ◌<◌, ◌==◌, ℕ, List, filter, length, Some, None, slice_index}
use Rattle.std.specs.Int.{bit_at}
use Rattle.std.specs.List.{range_with_len}
use Rattle.dg_io.specs.Kept.{Kept}
use Rattle.dg_io.specs.declared.outside.Rack.{Ghosts}

-- the places of the boundaries that are left of n, ascending. Bit s is set for each boundary s that is lost
abbrev pub places_left : ℕ → ℕ → List ℕ
places_left lost n = filter (λ s. bit_at lost s == 0) (range_with_len 0 n)

-- the old place of the member at a new one
abbrev pub member_before : List ℕ → ℕ → ℕ
member_before left q = 2 * slice_index left (q / 2) + q % 2

-- a checkpoint under the new places: its entries are those of the members that are left
pub record IsKeptLeft (left : List ℕ) (old new : Kept) : Type 0 where
  pub entries : (q : ℕ) → q / 2 < length left → new.entries q ≡ old.entries (member_before left q)
  pub extra : new.extra ≡ old.extra

-- It is the same rack, under the new places.
pub record LeavesLeft {S : Type 0} (rack : Ghosts S) (left : List ℕ) (old new : S) : Type 0 where
  pub bytes : (q : ℕ) → q / 2 < length left → rack.bytes new q ≡ rack.bytes old (member_before left q)
  pub faults : (q : ℕ) → q / 2 < length left → (rack.counts new).faults q ≡ (rack.counts old).faults (member_before left q)
  pub stands : (q : ℕ) → q / 2 < length left → rack.stands new q ≡ rack.stands old (member_before left q)
  pub tells : (q : ℕ) → q / 2 < length left → rack.tells old (member_before left q) ↔ rack.tells new q
  -- no call was made
  pub calls : (rack.counts new).calls ≡ (rack.counts old).calls
  pub writes : (rack.counts new).writes ≡ (rack.counts old).writes
  pub steady_on : rack.steady old ↔ rack.steady new
  -- the checkpoint is kept, and the disks are as they were
  pub kept : (kept : Kept) → rack.keeps old (Some kept) → (next : Kept) × IsKeptLeft left kept next × rack.keeps new (Some next)
  pub untold : rack.keeps old None → rack.keeps new None
  pub out : (s j : ℕ) → s < length left → (rack.disks new).out s j ≡ (rack.disks old).out (slice_index left s) j
  pub disk_faults : (s j : ℕ) → s < length left → (rack.disks new).faults s j ≡ (rack.disks old).faults (slice_index left s) j
