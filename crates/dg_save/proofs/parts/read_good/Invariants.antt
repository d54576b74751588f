use Rattle.dg_save.specs.Parts.{AreRead, IsAny, good_bytes}
use Rattle.dg_save.proofs.parts.read_good.Given as goal

abbrev pub invariant-loop-member : goal.invariant-loop-member
invariant-loop-member l = AreRead IsAny good_bytes l.fn.reader l.reader l.member l.good.items
