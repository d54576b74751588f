use Rattle.std.proofs.Common.{◌≡◌}
use Rattle.std.specs.List.{flat_map, range_with_len}
use Rattle.ufs_build.specs.Images.{indirect_parts}
use Rattle.ufs_build.specs.Parts.{put_parts}
use Rattle.ufs_build.proofs.images.put_level.Given as goal

abbrev pub invariant-loop-index : goal.invariant-loop-index
invariant-loop-index l = l.image ≡ put_parts (flat_map (indirect_parts l.g l.addresses l.level) (range_with_len 0 l.index)) l.initial.image
