use Rattle.byteorder.specs.Endian.{little_bytes}
use Rattle.dg_save.specs.Parts.{AreRead, FitsNumber}
use Rattle.dg_save.proofs.parts.read_numbers.Given as goal

abbrev pub invariant-loop-number : goal.invariant-loop-number
invariant-loop-number l = AreRead FitsNumber (little_bytes 4) l.fn.reader l.reader l.number l.numbers.items
