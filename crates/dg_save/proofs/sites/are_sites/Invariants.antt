use Rattle.std.proofs.Common.{take}
use Rattle.dg_save.specs.Checks.{AreMarked, AreRows}
use Rattle.dg_save.specs.Parts.{rows_in}
use Rattle.dg_save.proofs.sites.are_sites.Given as goal

abbrev pub invariant-loop-block : goal.invariant-loop-block
invariant-loop-block l = record {
  rows : AreRows l.shape (take l.block (rows_in l.lists.items));
  marks : AreMarked l.shape (take l.block (rows_in l.lists.items)) l.taken.items;
}
