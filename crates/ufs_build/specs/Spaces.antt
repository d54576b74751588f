-- How far was searched for free fragments.
use Rattle.std.specs.Prelude.{◌≡◌, ℕ, ◌<◌, ◌≤◌, Bool, false, List, length, slice_index}
use Rattle.ufs_model.specs.declared.geometries.Geometry.{Geometry}
use Rattle.ufs_build.specs.Placements.{fits}

-- no block of k fragments may begin below one
pub record NoneBelow (g : Geometry) (used : List Bool) (k from : ℕ) : Type 0 where
  pub none : (a : ℕ) → a < from → fits g used k a ≡ false

-- for each number of fragments, none may begin below what was searched
pub record IsSearched (g : Geometry) (used : List Bool) (searched : List ℕ) : Type 0 where
  pub size : length searched ≡ 9
  pub inside : (k : ℕ) → slice_index searched k ≤ g.size
  pub below : (k : ℕ) → NoneBelow g used k (slice_index searched k)
