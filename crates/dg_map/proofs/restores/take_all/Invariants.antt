use Rattle.std.proofs.Common.{◌≡◌, take}
use Rattle.dg_model.specs.Tables.{IsTable}
use Rattle.dg_map.specs.Restores.{set_sites}
use Rattle.dg_map.proofs.restores.take_all.Given as goal

abbrev pub invariant-loop-site : goal.invariant-loop-site
invariant-loop-site l = record {
  now : l.map ≡ set_sites l.fn.map l.block (take l.site-index l.sites);
  table : IsTable l.map;
}
