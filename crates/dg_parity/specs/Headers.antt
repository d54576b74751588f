-- The page at the front of a disk. The rules are this project's own.
use Rattle.std.specs.Prelude.{◌≡◌, ◌+◌, ◌<◌, ◌≤◌, ◌^◌, ◌++◌, ℕ, zero, suc, List, [], ◌∷◌, Bool, Option, Some, IfSome, codes, if◌then◌else◌}
use Rattle.byteorder.specs.Endian.{little_bytes}
use Rattle.dg_model.specs.Blocks.{padded}
use Rattle.dg_parity.specs.Stripes.{disk_length}
use Rattle.dg_parity.specs.declared.headers.Header.{Header}

-- a number with bit j for each of the first n disks that is marked
abbrev pub marks_of : (ℕ → Bool) → ℕ → ℕ
marks_of out zero = 0
marks_of out (suc n) = marks_of out n + (if out n then 2 ^ n else 0)

-- the 512 bytes of a header
unfoldable pub header_bytes : Header → List ℕ
header_bytes h =
    padded 512
    (codes "DGRAID-P" ++ little_bytes 8 h.epoch ++ h.group ∷ h.place ∷ h.disks ∷ h.marks ∷ 0 ∷ 0 ∷ 0 ∷ 0 ∷ [] ++ little_bytes 8 h.size)

-- each of its numbers fits in its bytes
pub record IsHeader (h : Header) : Type 0 where
  pub epochs : h.epoch < 2 ^ 64
  pub groups : h.group < 2 ^ 8
  pub places : h.place < 2 ^ 8
  pub widths : h.disks < 2 ^ 8
  pub marked : h.marks < 2 ^ 8
  pub sizes : h.size < 2 ^ 64

-- the header counts on disk j of group s, which has so many bytes
pub record IsCounted (s j long : ℕ) (h : Header) : Type 0 where
  pub group : h.group ≡ s
  pub place : h.place ≡ j
  pub least : 3 ≤ h.disks
  pub most : h.disks ≤ 8
  pub first : 1 ≤ h.epoch
  pub last : h.epoch < 2 ^ 63
  pub size : long ≡ disk_length h.disks h.size

-- what is read of bytes: the header that they are, or none where they are no header's
pub record IsReading (bytes : List ℕ) (read : Option Header) : Type 0 where
  pub header : (h : Header) → IsHeader h → bytes ≡ header_bytes h → read ≡ Some h
  pub only : IfSome read (λ h. bytes ≡ header_bytes h)
