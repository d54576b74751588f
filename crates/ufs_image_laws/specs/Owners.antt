-- The fragments that belong to a file that was built, and how many they are.
use Rattle.std.specs.Prelude.{ℕ, ◌+◌, ◌≤◌, List, length}
use Rattle.std.specs.List.{Contains}
use Rattle.ufs_build.specs.Placements.{indirect_count}
use Rattle.ufs_model.specs.Blocks.{Volume}
use Rattle.ufs_model.specs.Claims.{IsClaim, source_fragments}
use Rattle.ufs_model.specs.Owners.{IsOwner}
use Rattle.ufs_model.specs.declared.geometries.Geometry.{Geometry}

-- a fragment belongs to inode i, at some level
abbrev pub IsOwned : Geometry → Volume → ℕ → ℕ → Type 0
IsOwned g v i f = (level : ℕ) × IsOwner (IsClaim (source_fragments g v)) f i level

-- no more numbers than this are such: a list of so many has each of them
pub record AreAtMost (IsSuch : ℕ → Type 0) (most : ℕ) : Type 0 where
  pub numbers : List ℕ
  pub each : (n : ℕ) → IsSuch n → Contains numbers n
  pub few : length numbers ≤ most

-- a file's blocks, with the indirect blocks of each level that they may need
abbrev pub all_blocks : Geometry → ℕ → ℕ
all_blocks g blocks = blocks + indirect_count g 1 blocks + indirect_count g 2 blocks + indirect_count g 3 blocks
