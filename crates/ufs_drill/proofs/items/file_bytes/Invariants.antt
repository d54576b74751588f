use Rattle.std.proofs.Common.{◌≡◌, map}
use Rattle.std.specs.List.{range_with_len}
use Rattle.ufs_drill.specs.Items.{byte_of}
use Rattle.ufs_drill.proofs.items.file_bytes.Given as goal

abbrev pub invariant-loop-o : goal.invariant-loop-o
invariant-loop-o l = l.bytes.items ≡ map (byte_of l.k) (range_with_len 0 l.o)
