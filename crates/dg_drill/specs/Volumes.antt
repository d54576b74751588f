-- The volume of a drill, and the array that it stands on.
use Rattle.std.specs.Prelude.{◌≡◌, ℕ, List, Ok, Some}
use Rattle.dg_model.specs.declared.shapes.Shape.{Shape}
use Rattle.ufs_drill.specs.Items.{drill_items}
use Rattle.ufs_build.specs.Builds.{built}
use Rattle.ufs_build.specs.Volumes.{volume_of_spec}
use Rattle.ufs_drill.specs.Volumes.{drill_spec}
use Rattle.ufs_model.specs.declared.geometries.Geometry.{Geometry}

-- four boundaries, with a slot for each second block, and three places of naming blocks
abbrev pub drill_shape : Shape
drill_shape = record { l = 1024; n = 32768; b = 4; k = 16384; m = 3 }

-- the volume with these files has this image and this geometry
pub record IsDrillVolume (seed files : ℕ) (image : List ℕ) (g : Geometry) : Type 0 where
  pub image_is : built drill_spec (drill_items seed files) ≡ Ok image
  pub geometry_is : volume_of_spec drill_spec ≡ Some g
