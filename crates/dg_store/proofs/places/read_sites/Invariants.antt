use Rattle.std.proofs.Common.{◌≡◌, ◌+◌, ◌*◌, ◌≤◌, take}
use Rattle.std.specs.List.{All}
use Rattle.dg_model.specs.Causes.{NoneRose}
use Rattle.dg_store.specs.Rows.{members_in}
use Rattle.dg_store.specs.Slots.{KeepsSlots, RowKeeps}
use Rattle.dg_store.proofs.PlaceLemmas.{IsLostSite}
use Rattle.dg_store.proofs.places.read_sites.Given as goal

abbrev pub invariant-loop-site : goal.invariant-loop-site
invariant-loop-site g l = record {
  keeps : RowKeeps g.R.Rack l.shape l.fn.row.items l.fn.rack l.row.items l.rack;
  lost : All (IsLostSite (members_in l.row.items)) (take l.site-index l.sites);
  kept : KeepsSlots l.shape.l (members_in l.fn.row.items) (g.R.Rack.bytes l.fn.rack) (members_in l.row.items) (g.R.Rack.bytes l.rack);
  most : (g.R.Rack.counts l.rack).calls ≤ (g.R.Rack.counts l.fn.rack).calls + 2 * l.site-index;
  quiet : NoneRose (g.R.Rack.counts l.fn.rack).faults (g.R.Rack.counts l.rack).faults → (g.R.Rack.counts l.rack).calls ≤ (g.R.Rack.counts l.fn.rack).calls;
  writes : (g.R.Rack.counts l.rack).writes ≡ (g.R.Rack.counts l.fn.rack).writes;
}
