use Rattle.std.proofs.Common.{◌≡◌, ◌++◌, take}
use Rattle.ufs_audit.specs.Listed.{pairs_of}
use Rattle.ufs_audit.proofs.lists.add.Given as goal

abbrev pub invariant-loop-number : goal.invariant-loop-number
invariant-loop-number l = l.bad.items ≡ l.fn.bad.items ++ pairs_of l.kind (take l.number-index l.numbers)
