-- What is wrong with the pointers in a fragment of an indirect block, by its bytes.
use Rattle.std.specs.Prelude.{◌≡◌, ◌≢◌, ◌/◌, ◌%◌, ◌<◌, ℕ, List, Option}
use Rattle.ufs_model.specs.Pointers.{address, pointer_in}
use Rattle.ufs_model.specs.declared.geometries.Geometry.{Geometry}
use Rattle.ufs_model.specs.declared.pointers.Address.TheVariants.{Wild, At}
use Rattle.ufs_check.specs.Limits.{IsPastLimit}
use Rattle.ufs_check.specs.declared.limits.Limit.{Limit}

-- a pointer to fragments that aren't all data of one group
pub record HasWildPointer (g : Geometry) (bytes : List ℕ) : Type 0 where
  pub at : ℕ
  pub is : at < g.fsize / 4
  pub wild : address g (pointer_in g.endian bytes at) g.frag ≡ Wild

-- a pointer to a whole file block that begins in the middle of one
pub record HasMisalignedPointer (g : Geometry) (bytes : List ℕ) : Type 0 where
  pub at : ℕ
  pub start : ℕ
  pub is : at < g.fsize / 4
  pub whole : address g (pointer_in g.endian bytes at) g.frag ≡ At start g.frag
  pub middle : start % g.frag ≢ 0

-- a pointer that isn't 0, though no block of the file is reached through it
pub record HasPastPointer (g : Geometry) (bytes : List ℕ) (limit : Option Limit) : Type 0 where
  pub at : ℕ
  pub is : at < g.fsize / 4
  pub some : pointer_in g.endian bytes at ≢ 0
  pub past : IsPastLimit limit at
