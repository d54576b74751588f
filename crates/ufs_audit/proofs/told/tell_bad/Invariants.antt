use Rattle.std.proofs.Common.{◌≡◌, ◌++◌, map, take}
use Rattle.dg_model.specs.Findings.{bad_line}
use Rattle.ufs_audit.proofs.told.tell_bad.Given as goal

abbrev pub invariant-loop-pair : goal.invariant-loop-pair
invariant-loop-pair l = l.lines.items ≡ l.fn.lines.items ++ map bad_line (take l.pair-index l.bad)
