use Rattle.std.proofs.Common.{take}
use Rattle.dg_model.specs.Tables.{Table}
use Rattle.dg_map.specs.Begun.{AreSlotsOf}
use Rattle.dg_map.specs.Restores.{CanHave, set_sites}
use Rattle.dg_map.proofs.renumbers.take_slots.Given as goal

abbrev pub invariant-loop-site : goal.invariant-loop-site
invariant-loop-site l =
    (table : Table) → AreSlotsOf table l.fn.boundaries.items → CanHave table l.block l.sites → AreSlotsOf (set_sites table l.block (take l.site-index l.sites)) l.boundaries.items
