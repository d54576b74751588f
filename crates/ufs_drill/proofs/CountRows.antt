-- The whole file blocks of a drill's volume.
use Rattle.std.proofs.Common.{◌≡◌, refl}
use Rattle.ufs_build.specs.Volumes.{geometry_of_spec}
use Rattle.ufs_image_laws.specs.Rooms.{whole_below}
use Rattle.ufs_drill.specs.Volumes.{drill_spec}
use Rattle.ufs_model.specs.Geometries.{cgbase, cgstart}
use Rattle.ufs_model.specs.Pointers.{is_data_run}
use Rattle.ufs_model.specs.Roles.{role, role_in}

pub whole_count : whole_below (geometry_of_spec drill_spec) 4096 ≡ 3997
unfolding geometry_of_spec is_data_run role role_in cgstart cgbase
whole_count = refl
