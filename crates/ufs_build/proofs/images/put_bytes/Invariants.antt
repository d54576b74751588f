use Rattle.std.proofs.Common.{◌≡◌}
use Rattle.std.specs.List.{flat_map, range_with_len}
use Rattle.ufs_build.specs.Images.{data_parts}
use Rattle.ufs_build.specs.Parts.{put_parts}
use Rattle.ufs_build.specs.Placings.{file_of}
use Rattle.ufs_build.proofs.images.put_bytes.Given as goal

abbrev pub invariant-loop-n : goal.invariant-loop-n
invariant-loop-n l = l.image ≡ put_parts (flat_map (data_parts l.g (file_of l.node) l.addresses) (range_with_len 0 l.n)) l.initial.image
