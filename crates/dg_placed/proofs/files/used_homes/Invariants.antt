use Rattle.std.proofs.Common.{take}
use Rattle.dg_placed.specs.Used.{AreMarked}
use Rattle.dg_placed.proofs.files.used_homes.Given as goal

abbrev pub invariant-loop-block : goal.invariant-loop-block
invariant-loop-block l = AreMarked l.homes (take l.block l.wants) l.used.items
