use Rattle.std.proofs.Common.{◌≡◌}
use Rattle.ufs_build.specs.Traces.{is_written, numbers_where}
use Rattle.ufs_build.proofs.traces.written_blocks.Given as goal

abbrev pub invariant-loop-b : goal.invariant-loop-b
invariant-loop-b l = l.blocks.items ≡ numbers_where (is_written l.g.fsize l.image) l.b
