-- Parts of an image, and their bytes as they stand there.
use Rattle.std.specs.Prelude.{◌≡◌, ◌≤◌, ◌<◌, ◌+◌, ℕ, List, length, take, drop}
use Rattle.ufs_build.specs.Parts.{Part}

-- so many bytes from a place on are these
pub record Stands (image : List ℕ) (at : ℕ) (bytes : List ℕ) : Type 0 where
  pub inside : at + length bytes ≤ length image
  pub are : take (length bytes) (drop at image) ≡ bytes

-- a byte is none of a part's
pub record Misses (p : ℕ) (part : Part) : Type 0 where
  pub none : part.at ≤ p → p < part.at + length part.bytes → ⊥

-- two parts have no byte in common
pub record Apart (one other : Part) : Type 0 where
  pub none : (p : ℕ) → one.at ≤ p → p < one.at + length one.bytes → other.at ≤ p → p < other.at + length other.bytes → ⊥
