-- Runs of chunks: which chunk stands where, and in how many passes bytes of a member are read or written. The rules are this project's own.
use Rattle.std.specs.Prelude.{◌≡◌, ◌≢◌, ◌+◌, ◌-◌, ◌*◌, ◌/◌, ◌%◌, ◌<◌, ◌≤◌, ◌&&◌, ◌==◌, nat_le, nat_lt, bit_xor, ℕ, zero, suc, Bool, false, List, length, slice_index, if◌then◌else◌}
use Rattle.dg_parity.specs.Exclusive.{xor_upto, with_at}
use Rattle.dg_parity.specs.Stripes.{parity_of, spot_of, stripe_of}
use Rattle.dg_parity.specs.declared.windows.Window.{Window}

-- the number of disk j among those other than p
abbrev pub among : ℕ → ℕ → ℕ
among p j = if nat_lt j p then j else j - 1

-- the chunk of disk j in stripe t, whose parity isn't there
abbrev pub chunk_on : ℕ → ℕ → ℕ → ℕ
chunk_on n t j = t * (n - 1) + among (parity_of n t) j

-- the stripe at a place of a disk
abbrev pub stripe_at : ℕ → ℕ
stripe_at x = (x - 512) / 512

-- the byte of a member at place x of disk j
abbrev pub byte_on : ℕ → ℕ → ℕ → ℕ
byte_on n j x = 512 * chunk_on n (stripe_at x) j + x % 512

-- in how many passes of 16 stripes a row of bytes from a place on is read or written
abbrev pub passes_in : ℕ → ℕ → ℕ → ℕ
passes_in n place zero = 0
passes_in n place (suc k) = (stripe_of n ((place + k) / 512) - stripe_of n (place / 512)) / 16 + 1

-- in how many runs of 16 stripes so many are made
abbrev pub runs_of : ℕ → ℕ
runs_of stripes = (stripes + 15) / 16

-- the bytes from a place on that stand on disk j in stripe t were put there from a chunk
pub record Scatters (n j t at : ℕ) (chunk old new : List ℕ) : Type 0 where
  pub own : (k : ℕ) → k < length old → (spot_of n (at + k)).disk ≡ j → stripe_of n ((at + k) / 512) ≡ t → slice_index new k ≡ slice_index chunk ((at + k) % 512)
  pub disks : (k : ℕ) → k < length old → (spot_of n (at + k)).disk ≢ j → slice_index new k ≡ slice_index old k
  pub stripes : (k : ℕ) → k < length old → stripe_of n ((at + k) / 512) ≢ t → slice_index new k ≡ slice_index old k

-- the same of several chunks of disk j, in stripes from the first one on
pub record ScattersRow (n j first at : ℕ) (row old new : List ℕ) : Type 0 where
  pub own : (k : ℕ) → k < length old → (spot_of n (at + k)).disk ≡ j → first ≤ stripe_of n ((at + k) / 512) → stripe_of n ((at + k) / 512) < first + length row / 512
      → slice_index new k ≡ slice_index row (512 * (stripe_of n ((at + k) / 512) - first) + (at + k) % 512)
  pub disks : (k : ℕ) → k < length old → (spot_of n (at + k)).disk ≢ j → slice_index new k ≡ slice_index old k

-- the stripes in which so many bytes from a place on stand, 16 at most
pub record IsWindow (n at size : ℕ) (window : Window) : Type 0 where
  pub first : window.first ≡ stripe_of n (at / 512)
  pub last : window.first + window.count ≡ stripe_of n ((at + (size - 1)) / 512) + 1
  pub some : 1 ≤ window.count
  pub most : window.count ≤ 16

-- byte r of the chunk of disk j in stripe t
abbrev pub byte_in : ℕ → ℕ → ℕ → ℕ → ℕ
byte_in n t j r = 512 * chunk_on n t j + r

-- the bytes of a piece were put over the chunk of disk j in stripe t, which is the q-th one of a row
pub record Overlays (n j t q at : ℕ) (piece old new : List ℕ) : Type 0 where
  pub own : (r : ℕ) → r < 512 → at ≤ byte_in n t j r → byte_in n t j r < at + length piece → slice_index new (512 * q + r) ≡ slice_index piece (byte_in n t j r - at)
  pub low : (r : ℕ) → r < 512 → byte_in n t j r < at → slice_index new (512 * q + r) ≡ slice_index old (512 * q + r)
  pub high : (r : ℕ) → r < 512 → at + length piece ≤ byte_in n t j r → slice_index new (512 * q + r) ≡ slice_index old (512 * q + r)
  pub before : (x : ℕ) → x < 512 * q → slice_index new x ≡ slice_index old x
  pub behind : (x : ℕ) → 512 * q + 512 ≤ x → slice_index new x ≡ slice_index old x

-- the q-th chunk of a row is that of disk j in stripe t as far as a piece has it, or its parity
pub record Gathers (n j t q at : ℕ) (piece parities old new : List ℕ) : Type 0 where
  pub parity : (r : ℕ) → r < 512 → j ≡ parity_of n t → slice_index new (512 * q + r) ≡ slice_index parities (512 * q + r)
  pub own : (r : ℕ) → r < 512 → j ≢ parity_of n t → at ≤ byte_in n t j r → byte_in n t j r < at + length piece → slice_index new (512 * q + r) ≡ slice_index piece (byte_in n t j r - at)
  pub before : (x : ℕ) → x < 512 * q → slice_index new x ≡ slice_index old x

-- the same of each chunk of a row
pub record GathersRow (n j first at : ℕ) (piece parities row : List ℕ) (count : ℕ) : Type 0 where
  pub parity : (q r : ℕ) → q < count → r < 512 → j ≡ parity_of n (first + q) → slice_index row (512 * q + r) ≡ slice_index parities (512 * q + r)
  pub own : (q r : ℕ) → q < count → r < 512 → j ≢ parity_of n (first + q) → at ≤ byte_in n (first + q) j r → byte_in n (first + q) j r < at + length piece
      → slice_index row (512 * q + r) ≡ slice_index piece (byte_in n (first + q) j r - at)

-- the bytes of a row of disk j that are written: its parities, and those of its chunks that a piece has
pub record IsSpan (n j at size : ℕ) (window : Window) (low high : ℕ) : Type 0 where
  pub fits : high ≤ 512 * window.count
  pub inside : (q r : ℕ) → q < window.count → r < 512 → low ≤ 512 * q + r → 512 * q + r < high → j ≢ parity_of n (window.first + q)
      → (at ≤ byte_in n (window.first + q) j r) × (byte_in n (window.first + q) j r < at + size)
  pub before : (q r : ℕ) → q < window.count → r < 512 → 512 * q + r < low → (j ≢ parity_of n (window.first + q)) × (byte_in n (window.first + q) j r < at)
  pub behind : (q r : ℕ) → q < window.count → r < 512 → high ≤ 512 * q + r → (j ≢ parity_of n (window.first + q)) × (at + size ≤ byte_in n (window.first + q) j r)

-- the byte of a member of these bytes at place x of disk j, whose parity isn't there
abbrev pub data_on : ℕ → List ℕ → ℕ → ℕ → ℕ
data_on n bytes j x = slice_index bytes (byte_on n j x)

-- what disk j has at place x for a member of these bytes: one of them, or the exclusive or of the chunks of the stripe where its parity is
abbrev pub laid : ℕ → List ℕ → ℕ → ℕ → ℕ
laid n bytes j x = if j == parity_of n (stripe_at x) then xor_upto (with_at (λ i. data_on n bytes i x) j 0) n else data_on n bytes j x

-- the first m disks have what they have for the next bytes, and the others for those before
abbrev pub mixed : ℕ → List ℕ → List ℕ → ℕ → ℕ → ℕ → ℕ
mixed n bytes next m j x = if nat_lt j m then laid n next j x else laid n bytes j x

-- byte r of the chunk of disk j in stripe t, with a piece over it
abbrev pub over : ℕ → ℕ → ℕ → ℕ → List ℕ → List ℕ → ℕ → ℕ
over n t j at piece chunk r =
    if nat_le at (byte_in n t j r) && nat_lt (byte_in n t j r) (at + length piece) then slice_index piece (byte_in n t j r - at) else slice_index chunk r

-- a parity was changed by the old chunk of disk j, where it is made by change, and by the new one; and by the old parity in the first case alone
pub record ChangesPage (n j t : ℕ) (by : Bool) (at : ℕ) (piece chunk old new : List ℕ) : Type 0 where
  pub parity : (r : ℕ) → r < 512 → j ≡ parity_of n t → slice_index new r ≡ (if by then bit_xor (slice_index old r) (slice_index chunk r) else slice_index old r)
  pub own : (r : ℕ) → r < 512 → j ≢ parity_of n t
      → slice_index new r ≡ bit_xor (if by then bit_xor (slice_index old r) (slice_index chunk r) else slice_index old r) (over n t j at piece chunk r)

-- by what disk j changes byte r of the new parity of stripe t
abbrev pub term_of : ℕ → ℕ → Bool → List ℕ → List ℕ → ℕ → ℕ → ℕ
term_of n t by bytes next r j =
    if by
    then bit_xor (laid n bytes j (512 + 512 * t + r)) (with_at (λ i. laid n next i (512 + 512 * t + r)) (parity_of n t) 0 j)
    else with_at (λ i. laid n next i (512 + 512 * t + r)) (parity_of n t) 0 j

-- the next bytes of a member are those before with a piece over them
pub record IsPatched (at : ℕ) (piece bytes next : List ℕ) : Type 0 where
  pub inside : (b : ℕ) → at ≤ b → b < at + length piece → slice_index next b ≡ slice_index piece (b - at)
  pub before : (b : ℕ) → b < at → slice_index next b ≡ slice_index bytes b
  pub behind : (b : ℕ) → at + length piece ≤ b → slice_index next b ≡ slice_index bytes b

-- all bytes of the chunks of stripe t are among so many
pub record IsWhole (n t at size : ℕ) : Type 0 where
  pub low : at ≤ 512 * (t * (n - 1))
  pub high : 512 * ((t + 1) * (n - 1)) ≤ at + size

-- a page is the parity of stripe t for these bytes of the member
abbrev pub IsPage : ℕ → ℕ → List ℕ → List ℕ → Type 0
IsPage n t bytes page = (r : ℕ) → r < 512 → slice_index page r ≡ laid n bytes (parity_of n t) (512 + 512 * t + r)

-- a row is the parities of several stripes for these bytes, where their disks aren't out
abbrev pub ArePages : ℕ → ℕ → ℕ → (ℕ → Bool) → List ℕ → List ℕ → Type 0
ArePages n first count out bytes row = (q r : ℕ) → q < count → r < 512 → out (parity_of n (first + q)) ≡ false
    → slice_index row (512 * q + r) ≡ laid n bytes (parity_of n (first + q)) (512 + 512 * (first + q) + r)

-- whether a stripe begins at byte b of a member
abbrev pub begins : ℕ → ℕ → Bool
begins n b = b % 512 == 0 && b / 512 % (n - 1) == 0

-- how many calls at most the parity of a stripe that is written in part takes, where b cuts it
abbrev pub reads_at : ℕ → ℕ → ℕ
reads_at n b = if begins n b then 0 else (n + 1) * n

-- the bytes from a place on that stand on disk j are those that the disks have
abbrev pub ReadsOn : ℕ → ℕ → ℕ → (ℕ → ℕ → ℕ) → List ℕ → Type 0
ReadsOn n j at has buf = (k : ℕ) → k < length buf → (spot_of n (at + k)).disk ≡ j → slice_index buf k ≡ has j (spot_of n (at + k)).place

-- the same of the first m disks
abbrev pub ReadsUpto : ℕ → ℕ → ℕ → (ℕ → ℕ → ℕ) → List ℕ → Type 0
ReadsUpto n m at has buf = (k : ℕ) → k < length buf → (spot_of n (at + k)).disk < m → slice_index buf k ≡ has (spot_of n (at + k)).disk (spot_of n (at + k)).place
