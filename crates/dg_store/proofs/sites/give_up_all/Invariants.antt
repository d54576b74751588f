use Rattle.std.proofs.Common.{◌≡◌, length}
use Rattle.dg_model.specs.Tables.{IsTable, sites_in}
use Rattle.dg_store.proofs.TableLemmas.{with_sites}
use Rattle.dg_store.proofs.sites.give_up_all.Given as goal

abbrev pub invariant-loop-last : goal.invariant-loop-last
invariant-loop-last l = record {
  table : IsTable l.map;
  now : l.map ≡ with_sites l.fn.map l.block (sites_in l.map l.block);
}

abbrev pub decreases-loop-last : goal.decreases-loop-last
decreases-loop-last l = length (sites_in l.map l.block)
