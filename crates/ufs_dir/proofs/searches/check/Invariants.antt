use Rattle.std.proofs.Common.{◌≡◌, length}
use Rattle.ufs_model.specs.Chunks.{fault_in}
use Rattle.ufs_dir.proofs.searches.check.Given as goal

abbrev pub invariant-loop-bad : goal.invariant-loop-bad
invariant-loop-bad l = l.entries.fault ≡ fault_in l.fn.endian 0 l.chunk

abbrev pub decreases-loop-bad : goal.decreases-loop-bad
decreases-loop-bad l = length l.entries.entries
