use Rattle.std.proofs.Common.{◌≡◌, false, take}
use Rattle.std.specs.List.{list_any}
use Rattle.dg_model.specs.Copies.{lacks_copy}
use Rattle.dg_volume.proofs.file_lists.any_lacks_copy.Given as goal

abbrev pub invariant-loop-inode : goal.invariant-loop-inode
invariant-loop-inode l = list_any (lacks_copy l.homes l.copies) (take l.inode-index l.inodes) ≡ false
