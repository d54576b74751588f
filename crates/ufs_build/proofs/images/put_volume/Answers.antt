use Rattle.std.proofs.Common.{◌≡◌, ◌+◌, length}
use Rattle.std.specs.List.{flat_map, range_with_len}
use Rattle.std.proofs.lemmas.List.{length-map}
use Rattle.ufs_build.specs.Images.{file_parts, group_parts, volume_parts}
use Rattle.ufs_build.specs.Parts.{field_parts}
use Rattle.ufs_build.specs.Placings.{file_of, files_of}
use Rattle.ufs_build.specs.Volumes.{superblock_fields}
use Rattle.ufs_build.proofs.PartLaws.{three_put}
use Rattle.ufs_build.proofs.images.put_volume.Goals as goal

pub returns : goal.returns
unfolding volume_parts
returns c =
    let same : length (files_of c.args.nodes.now) ≡ length c.args.nodes.now = length-map c.args.nodes.now file_of in
    rw same
    (three_put (field_parts c.args.g.now.endian 8192 (superblock_fields c.args.g.now))
    (flat_map (group_parts c.args.g.now (length c.args.nodes.now + 2) c.args.used.now) (range_with_len 0 c.args.g.now.ncg))
    (file_parts c.args.g.now 2 (files_of c.args.nodes.now) c.args.files.now)
    c.args.image.now c.put_superblock.new.image c.put_groups.new.image c.put_files.new.image
    c.put_superblock.ensures c.in_ok-put_groups.ensures c.in_ok-put_files.ensures)
