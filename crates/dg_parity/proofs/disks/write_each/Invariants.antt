use Rattle.std.proofs.Common.{◌≡◌, ◌<◌, ℕ, false}
use Rattle.dg_parity.specs.Groups.{is_out, HasHead, Holds, AllTold, LeavesGroup, MostCalls}
use Rattle.dg_parity.proofs.disks.write_each.Given as goal

abbrev pub invariant-loop-j : goal.invariant-loop-j
invariant-loop-j g l = record {
  end : l.j-end ≡ l.fn.group.disks;
  same : l.group ≡ l.fn.group;
  leaves : LeavesGroup g.R.Rack l.fn.group l.group l.fn.rack l.rack;
  holds : (has : ℕ → ℕ → ℕ) → AllTold g.R.Rack l.group l.rack → Holds g.R.Rack l.fn.group l.fn.rack has → Holds g.R.Rack l.group l.rack has;
  heads : (i : ℕ) → i < l.j → is_out l.group i ≡ false → HasHead g.R.Rack l.group l.rack i;
  calls : MostCalls g.R.Rack l.j l.fn.rack l.rack;
}
