use Rattle.std.proofs.Common.{◌≡◌, map}
use Rattle.std.specs.List.{range_with_len}
use Rattle.ufs_drill.specs.Items.{directory_item}
use Rattle.ufs_drill.proofs.items.directories.Given as goal

abbrev pub invariant-loop-x : goal.invariant-loop-x
invariant-loop-x l = l.items.items ≡ map directory_item (range_with_len 0 l.x)
