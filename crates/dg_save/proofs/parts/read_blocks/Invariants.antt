use Rattle.dg_save.specs.Parts.{AreBlocksRead, rows_in}
use Rattle.dg_save.proofs.parts.read_blocks.Given as goal

abbrev pub invariant-loop-block : goal.invariant-loop-block
invariant-loop-block l = AreBlocksRead l.fn.reader l.reader l.block (rows_in l.lists.items) l.pending.items
