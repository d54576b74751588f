use Rattle.dg_model.specs.Tables.{Table}
use Rattle.dg_map.specs.Begun.{AreRowsBelow, AreSlotsOf}
use Rattle.dg_map.specs.Renumbers.{renumbered}
use Rattle.dg_map.specs.Restores.{IsRestoredBelow}
use Rattle.dg_map.proofs.maps.Map.renumbered.Given as goal

abbrev pub invariant-loop-block : goal.invariant-loop-block
invariant-loop-block l = record {
  rows : AreRowsBelow (renumbered l.fn.shape l.numbers l.self) l.block l.lists;
  slots : (now : Table) × IsRestoredBelow (renumbered l.fn.shape l.numbers l.self) now l.block × AreSlotsOf now l.boundaries.items;
}
