-- Where the bytes of a member stand on the disks of its group. The rules are this project's own.
use Rattle.std.specs.Prelude.{◌≡◌, ◌+◌, ◌-◌, ◌*◌, ◌/◌, ◌%◌, ◌<◌, ◌≤◌, ◌&&◌, ◌==◌, nat_lt, nat_le, ℕ, zero, suc, List, Bool, if◌then◌else◌, length}
use Rattle.std.specs.Prelude.{map, slice_index, bit_xor}
use Rattle.std.specs.List.{range_with_len}
use Rattle.dg_parity.specs.Exclusive.{xor_upto, with_at}
use Rattle.dg_parity.specs.declared.stripes.Spot.{Spot}

-- a member of so many bytes is chunks of 512 bytes, the last filled with zeros
abbrev pub chunks_of : ℕ → ℕ
chunks_of size = (size + 511) / 512

-- in how many chunks a row of bytes from a place on stands
abbrev pub chunks_in : ℕ → ℕ → ℕ
chunks_in place zero = 0
chunks_in place (suc k) = (place % 512 + k) / 512 + 1

-- the stripe of chunk i in a group of n disks: each stripe has n - 1 chunks and their parity
abbrev pub stripe_of : ℕ → ℕ → ℕ
stripe_of n i = i / (n - 1)

-- how many stripes a member of so many bytes has
abbrev pub stripes_of : ℕ → ℕ → ℕ
stripes_of n size = (chunks_of size + (n - 2)) / (n - 1)

-- the disk with the parity of stripe t
abbrev pub parity_of : ℕ → ℕ → ℕ
parity_of n t = t % n

-- the k-th of the disks other than p, ascending from 0
abbrev pub beside : ℕ → ℕ → ℕ
beside p k = if nat_lt k p then k else k + 1

-- the disk of chunk i
abbrev pub disk_of : ℕ → ℕ → ℕ
disk_of n i = beside (parity_of n (stripe_of n i)) (i % (n - 1))

-- where a stripe stands on each of its disks
abbrev pub place_of : ℕ → ℕ
place_of t = 512 + 512 * t

-- how many bytes a disk has: the header's, and those of its stripes
abbrev pub disk_length : ℕ → ℕ → ℕ
disk_length n size = place_of (stripes_of n size)

-- where byte b of a member stands: its disk, the disk with its parity, and the place on both
abbrev pub spot_of : ℕ → ℕ → Spot
spot_of n b = record {
  disk = disk_of n (b / 512);
  parity = parity_of n (stripe_of n (b / 512));
  place = place_of (stripe_of n (b / 512)) + b % 512;
}

-- what disk j has at place x, by all disks: the exclusive or of the others where it is out
abbrev pub made_up : ℕ → (ℕ → Bool) → (ℕ → List ℕ) → ℕ → ℕ → ℕ
made_up n out disks j x = if out j then xor_upto (with_at (λ i. slice_index (disks i) x) j 0) n else slice_index (disks j) x

-- the bytes of a member, by what its disks have
abbrev pub member_by : ℕ → ℕ → (ℕ → ℕ → ℕ) → List ℕ
member_by n size has = map (λ b. has (spot_of n b).disk (spot_of n b).place) (range_with_len 0 size)

-- a place of the stripes, behind the header
pub record InStripes (n size x : ℕ) : Type 0 where
  pub behind : 512 ≤ x
  pub below : x < disk_length n size

-- what the disks have with a piece at a place of disk j
abbrev pub put : (ℕ → ℕ → ℕ) → ℕ → ℕ → List ℕ → ℕ → ℕ → ℕ
put has j place piece i x = if i == j && nat_le place x && nat_lt x (place + length piece) then slice_index piece (x - place) else has i x

-- the parity that a place gets with this byte on disk a in place of the one there
abbrev pub next_parity : (ℕ → ℕ → ℕ) → ℕ → ℕ → ℕ → ℕ → ℕ
next_parity has a p x v = bit_xor (has p x) (bit_xor (has a x) v)

-- what the disks have with a piece at a place of disk a, and the parity on disk p made anew
abbrev pub written : (ℕ → ℕ → ℕ) → ℕ → ℕ → ℕ → List ℕ → ℕ → ℕ → ℕ
written has a p place piece i x =
    if nat_le place x && nat_lt x (place + length piece)
    then (if i == a then slice_index piece (x - place) else if i == p then next_parity has a p x (slice_index piece (x - place)) else has i x)
    else has i x

-- at each place of the stripes the exclusive or over all disks is zero
abbrev pub IsEven : ℕ → ℕ → (ℕ → ℕ → ℕ) → Type 0
IsEven n size has = (x : ℕ) → InStripes n size x → xor_upto (λ j. has j x) n ≡ 0

-- where a chunk has places behind the last byte they are zero
abbrev pub IsClear : ℕ → ℕ → (ℕ → ℕ → ℕ) → Type 0
IsClear n size has = (b : ℕ) → size ≤ b → InStripes n size (spot_of n b).place → has (spot_of n b).disk (spot_of n b).place ≡ 0

-- a row of bytes is the parity that a piece brings about at a place
abbrev pub IsParity : (ℕ → ℕ → ℕ) → Spot → List ℕ → List ℕ → Type 0
IsParity has spot piece row = (k : ℕ) → k < length piece → slice_index row k ≡ next_parity has spot.disk spot.parity (spot.place + k) (slice_index piece k)
