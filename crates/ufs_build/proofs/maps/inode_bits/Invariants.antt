use Rattle.std.proofs.Common.{◌≡◌, ◌*◌, ◌+◌, nat_lt, map}
use Rattle.std.specs.List.{range_with_len}
use Rattle.ufs_build.proofs.maps.inode_bits.Given as goal

abbrev pub invariant-loop-i : goal.invariant-loop-i
invariant-loop-i l = l.bits.items ≡ map (λ i. nat_lt (l.c * l.g.ipg + i) l.inodes) (range_with_len 0 l.i)
