-- Which file blocks are reached through the pointers of indirect blocks that an inode owns.
use Rattle.std.specs.Prelude.{◌≡◌, ◌+◌, ◌-◌, ◌*◌, ◌^◌, ℕ, List, Option, Some, None, IfSome, slice_get}
use Rattle.ufs_model.specs.Blocks.{Volume}
use Rattle.ufs_model.specs.Claims.{fragments_from}
use Rattle.ufs_model.specs.Malformations.{Claims, FirstBlock}
use Rattle.ufs_model.specs.Owners.{IsOwner}
use Rattle.ufs_model.specs.declared.claims.ClaimSource.{ClaimSource}
use Rattle.ufs_model.specs.declared.claims.ClaimSource.TheVariants.{Slot, Pointer}
use Rattle.ufs_model.specs.declared.geometries.Geometry.{Geometry}
use Rattle.ufs_check.specs.declared.reaches.Reach.{Reach}

-- a fragment has this place among some
abbrev pub IsPlaceIn : List ℕ → ℕ → ℕ → Type 0
IsPlaceIn fragments f place = slice_get fragments place ≡ Some f

-- some fragments stand in a row
pub record IsInRow (fragments : List ℕ) : Type 0 where
  pub first : ℕ
  pub count : ℕ
  pub are : fragments ≡ fragments_from first count

-- an inode owns a source: it is one of its slots, or a pointer at the level at which it owns the pointer's fragment
abbrev pub OwnsSource : Geometry → Volume → ClaimSource → ℕ → Type 0
OwnsSource g v (Slot j slot) i = j ≡ i
OwnsSource g v (Pointer f level at) i = IsOwner (Claims g v) f i level

-- the inode that owns a source, and the first file block that is reached through it, or none
pub record ReachesAs (g : Geometry) (v : Volume) (source : ClaimSource) (r : Option (ℕ × ℕ)) : Type 0 where
  pub is : IfSome r (λ first. OwnsSource g v source (first.0) × FirstBlock g v source (first.0) (first.1))
  pub only : (i n : ℕ) → OwnsSource g v source i → FirstBlock g v source i n → r ≡ Some (i, n)

-- what is reached through the pointers of a fragment
pub record ReachesAll (g : Geometry) (v : Volume) (f : ℕ) (reach : Reach) : Type 0 where
  pub owned : IsOwner (Claims g v) f reach.inode reach.level
  pub each : (at : ℕ) → FirstBlock g v (Pointer f reach.level at) reach.inode (reach.first + at * g.nindir ^ (reach.level - 1))

-- the level and the inode of a pointer, and the file block that it reaches, are these
pub record ReachesThis (g : Geometry) (level at i n : ℕ) (reach : Reach) : Type 0 where
  pub of_level : level ≡ reach.level
  pub of_inode : i ≡ reach.inode
  pub block : n ≡ reach.first + at * g.nindir ^ (reach.level - 1)

-- the inode that owns a fragment of an indirect block, at which level, and the file blocks that are reached through its pointers; or none
pub record IsReach (g : Geometry) (v : Volume) (f : ℕ) (r : Option Reach) : Type 0 where
  pub is : IfSome r (ReachesAll g v f)
  pub only : (level at i n : ℕ) → IsOwner (Claims g v) f i level → FirstBlock g v (Pointer f level at) i n → IfSome r (ReachesThis g level at i n)
  pub some : (level at i n : ℕ) → IsOwner (Claims g v) f i level → FirstBlock g v (Pointer f level at) i n → r ≡ None → ⊥
