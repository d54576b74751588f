use Rattle.std.proofs.Common.{◌≡◌}
use Rattle.std.specs.List.{flat_map, range_with_len}
use Rattle.ufs_build.specs.Images.{pointer_parts}
use Rattle.ufs_build.specs.Parts.{put_parts}
use Rattle.ufs_build.proofs.images.put_pointers.Given as goal

abbrev pub invariant-loop-i : goal.invariant-loop-i
invariant-loop-i l = l.image ≡ put_parts (flat_map (pointer_parts l.g l.addresses l.level l.index) (range_with_len 0 l.i)) l.initial.image
