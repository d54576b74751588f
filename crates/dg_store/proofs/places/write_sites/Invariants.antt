use Rattle.std.proofs.Common.{◌+◌, ◌*◌, ◌≤◌, take}
use Rattle.dg_store.specs.Rows.{members_in}
use Rattle.dg_store.specs.Slots.{KeepsSlotsBut, LostAreOut, RowKeeps, SitesHold}
use Rattle.dg_store.proofs.places.write_sites.Given as goal

abbrev pub invariant-loop-site : goal.invariant-loop-site
invariant-loop-site g l = record {
  keeps : RowKeeps g.R.Rack l.shape l.fn.row.items l.fn.rack l.row.items l.rack;
  put : SitesHold l.shape.l (members_in l.row.items) (g.R.Rack.bytes l.rack) l.buf (take l.site-index l.sites);
  out : LostAreOut (members_in l.row.items) (take l.site-index l.sites);
  kept : KeepsSlotsBut l.shape.l l.sites (members_in l.fn.row.items) (g.R.Rack.bytes l.fn.rack) (members_in l.row.items) (g.R.Rack.bytes l.rack);
  most : (g.R.Rack.counts l.rack).calls ≤ (g.R.Rack.counts l.fn.rack).calls + 2 * l.site-index;
}
