use Rattle.std.proofs.Common.{◌≡◌}
use Rattle.std.specs.List.{flat_map, range_with_len}
use Rattle.ufs_build.specs.Images.{slot_parts}
use Rattle.ufs_build.specs.Parts.{put_parts}
use Rattle.ufs_build.proofs.images.put_slots.Given as goal

abbrev pub invariant-loop-slot : goal.invariant-loop-slot
invariant-loop-slot l = l.image ≡ put_parts (flat_map (slot_parts l.g l.at l.addresses) (range_with_len 0 l.slot)) l.initial.image
