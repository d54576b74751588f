-- Numbers in bytes, and tests of numbers.
use Rattle.std.specs.Prelude.{ℕ, zero, suc, ◌&&◌, Bool, true, List, drop}
use Rattle.byteorder.specs.Endian.{big_number, little_number}
use Rattle.ufs_model.specs.declared.numbers.Endian.{Endian}
use Rattle.ufs_model.specs.declared.numbers.Endian.TheVariants.{Little, Big}

-- the unsigned number in so many bytes from a place on, as `number_at Little 4 bytes 8`
unfoldable pub number_at : Endian → ℕ → List ℕ → ℕ → ℕ
number_at Little count bytes at = little_number count (drop at bytes)
number_at Big count bytes at = big_number count (drop at bytes)

-- the test holds of each number below n
abbrev pub all_below : (ℕ → Bool) → ℕ → Bool
all_below test zero = true
all_below test (suc n) = all_below test n && test n
