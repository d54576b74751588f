use Rattle.std.proofs.Common.{◌≡◌}
use Rattle.std.specs.List.{flat_map, range_with_len}
use Rattle.ufs_build.specs.Images.{group_parts}
use Rattle.ufs_build.specs.Parts.{put_parts}
use Rattle.ufs_build.proofs.images.put_groups.Given as goal

abbrev pub invariant-loop-c : goal.invariant-loop-c
invariant-loop-c l = l.image ≡ put_parts (flat_map (group_parts l.g l.inodes l.used) (range_with_len 0 l.c)) l.initial.image
