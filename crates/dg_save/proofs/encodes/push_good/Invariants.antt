use Rattle.std.proofs.Common.{◌≡◌, ◌++◌, take}
use Rattle.std.specs.Prelude.{flat_map}
use Rattle.dg_save.specs.Parts.{good_bytes}
use Rattle.dg_save.proofs.encodes.push_good.Given as goal

abbrev pub invariant-loop-mark : goal.invariant-loop-mark
invariant-loop-mark l = l.bytes.items ≡ l.fn.bytes.items ++ flat_map good_bytes (take l.mark-index l.good)
