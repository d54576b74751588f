use Rattle.std.proofs.Common.{}
use Rattle.dg_model.specs.Tables.{IsTable}
use Rattle.dg_map.specs.Restores.{IsRestoredBelow, table_with}
use Rattle.dg_map.proofs.maps.Map.restored.Given as goal

abbrev pub invariant-loop-block : goal.invariant-loop-block
invariant-loop-block l = record {
  now : IsRestoredBelow (table_with l.fn.shape l.sites.items) l.map l.block;
  table : IsTable l.map;
}
