-- The numbers of a drill's volume.
use Rattle.std.proofs.Common.{◌≡◌, refl}
use Rattle.std.specs.Prelude.{Some}
use Rattle.ufs_build.specs.Volumes.{geometry_of_spec, has_numbers, maps_fit, read_geometry, superblock_bytes, superblock_fields, volume_of_spec}
use Rattle.ufs_build.specs.Parts.{number_bytes, put_at}
use Rattle.ufs_drill.specs.Volumes.{drill_spec}
use Rattle.ufs_model.specs.Geometries.{cgbase, cgstart, end_of, is_block_size, is_fragment_count}
use Rattle.ufs_model.specs.Numbers.{number_at}
use Rattle.ufs_model.specs.Superblocks.{endian_of, fields, format_holds, frag_holds, geometry_by, geometry_in, group_fits, groups_hold, inodes_hold, layout_holds, summary_holds}

pub drill_geometry : volume_of_spec drill_spec ≡ Some (geometry_of_spec drill_spec)
unfolding volume_of_spec has_numbers maps_fit read_geometry geometry_of_spec superblock_bytes superblock_fields put_at number_bytes number_at geometry_in geometry_by endian_of fields format_holds frag_holds groups_hold inodes_hold group_fits layout_holds summary_holds cgbase cgstart end_of is_block_size is_fragment_count
drill_geometry = refl
