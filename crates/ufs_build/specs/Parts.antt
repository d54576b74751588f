-- Bytes that are put at places, and numbers as bytes.
use Rattle.std.specs.Prelude.{ℕ, ◌+◌, nat_le, List, [], ◌∷◌, ◌++◌, length, take, drop, map, if◌then◌else◌}
use Rattle.byteorder.specs.Endian.{big_bytes, little_bytes}
use Rattle.ufs_model.specs.declared.numbers.Endian.{Endian}
use Rattle.ufs_model.specs.declared.numbers.Endian.TheVariants.{Little, Big}
use Rattle.ufs_build.specs.declared.parts.Field.{Field}

-- Bytes at a place.
pub record Part : Type 0 where
  pub at : ℕ
  pub bytes : List ℕ

-- bytes in which a piece is put at a place, where it fits
unfoldable pub put_at : ℕ → List ℕ → List ℕ → List ℕ
put_at at piece bytes = if nat_le (at + length piece) (length bytes) then take at bytes ++ piece ++ drop (at + length piece) bytes else bytes

-- bytes in which each part is put at its place
abbrev pub put_parts : List Part → List ℕ → List ℕ
put_parts [] bytes = bytes
put_parts (part ∷ parts) bytes = put_parts parts (put_at part.at part.bytes bytes)

-- a number in so many bytes
unfoldable pub number_bytes : Endian → ℕ → ℕ → List ℕ
number_bytes Little count x = little_bytes count x
number_bytes Big count x = big_bytes count x

-- a number of so many bytes at a place
abbrev pub number_part : Endian → ℕ → ℕ → ℕ → Part
number_part endian count at x = record { at = at; bytes = number_bytes endian count x }

-- fields of 32 bits, whose places are counted from a byte
abbrev pub field_parts : Endian → ℕ → List Field → List Part
field_parts endian base fields = map (λ field. number_part endian 4 (base + field.at) field.value) fields
