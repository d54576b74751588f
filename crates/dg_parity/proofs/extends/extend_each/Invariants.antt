use Rattle.std.proofs.Common.{◌≡◌, ◌≤◌, ◌+◌}
use Rattle.dg_parity.specs.Extends.{IsExtended}
use Rattle.dg_parity.proofs.extends.extend_each.Given as goal

abbrev pub invariant-loop-j : goal.invariant-loop-j
invariant-loop-j g l = record {
  end : l.j-end ≡ l.fn.group.disks;
  extended : IsExtended g.R.Rack l.long l.fn.group l.group l.fn.rack l.rack l.j;
  calls : (g.R.Rack.counts l.rack).calls ≤ (g.R.Rack.counts l.fn.rack).calls + l.j;
}
