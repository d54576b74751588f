-- What callers see of the buffers of a reader.
use Rattle.std.specs.Prelude.{ℕ, List}

-- the bytes of a fragment; the bytes of the block that was read last, and those of the fragment that was read beside it
pub record Buffers : Type 0 where
  pub fragment : ℕ
  pub block : List ℕ
  pub aside : List ℕ
