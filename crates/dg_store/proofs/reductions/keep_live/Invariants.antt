use Rattle.std.proofs.Common.{◌+◌}
use Rattle.dg_store.specs.Reduced.{IsKept}
use Rattle.dg_store.proofs.reductions.keep_live.Given as goal

abbrev pub invariant-loop-number : goal.invariant-loop-number
invariant-loop-number l = IsKept l.shape.l (l.shape.k + 1) l.fn.row.items l.row.items l.number l.kept
