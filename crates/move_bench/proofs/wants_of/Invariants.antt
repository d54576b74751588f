use Rattle.std.proofs.Common.{◌≡◌, vec_len}
use Rattle.move_bench.proofs.wants_of.Given as goal

abbrev pub invariant-loop-block : goal.invariant-loop-block
invariant-loop-block l = vec_len l.wants ≡ l.block
