-- The volumes of a view that have a geometry. The record of a view's members is the first argument.
use Rattle.std.specs.Prelude.{◌≡◌, Ok}
use Rattle.ufs_model.specs.Blocks.{Volume}
use Rattle.ufs_model.specs.Superblocks.{geometry_of}
use Rattle.ufs_model.specs.declared.geometries.Geometry.{Geometry}
use Rattle.dg_io.specs.declared.views.View.{Ghosts}

-- a volume of the view whose superblock gives this geometry
abbrev pub HasGeometry : {S : Type 0} → Ghosts S → S → Geometry → Volume → Type 0
HasGeometry view old g v = view.stands_for old v × ((geometry_of (view.size old) (view.count old) v).value ≡ Ok g)
