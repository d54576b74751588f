use Rattle.std.proofs.Common.{◌≡◌, ◌+◌, ◌-◌, ◌*◌, ◌≤◌, ℕ}
use Rattle.dg_parity.specs.Stripes.{IsEven}
use Rattle.dg_parity.specs.Groups.{Holds, AllTold}
use Rattle.dg_parity.specs.Mends.{FilledTo, IsRefilled, LeavesBut}
use Rattle.dg_parity.specs.Runs.{runs_of}
use Rattle.dg_parity.proofs.mends.fill_disk.Given as goal

abbrev pub invariant-loop-t : goal.invariant-loop-t
invariant-loop-t g l = record {
  within : l.t ≤ l.count;
  calls : (g.R.Rack.counts l.rack).calls + l.fn.group.disks * runs_of (l.count - l.t) ≤ (g.R.Rack.counts l.fn.rack).calls + (l.fn.group.disks * runs_of l.count + 1);
  same : l.group ≡ l.fn.group;
  leaves : LeavesBut g.R.Rack l.j l.fn.group l.group l.fn.rack l.rack;
  refilled : IsRefilled g.R.Rack l.group l.rack l.j;
  holds : (has : ℕ → ℕ → ℕ) → AllTold g.R.Rack l.group l.rack → Holds g.R.Rack l.fn.group l.fn.rack has → Holds g.R.Rack l.group l.rack has;
  filled : (has : ℕ → ℕ → ℕ) → AllTold g.R.Rack l.group l.rack → Holds g.R.Rack l.fn.group l.fn.rack has
      → IsEven l.fn.group.disks l.fn.group.length has → FilledTo g.R.Rack l.group l.rack l.j has l.t;
}

abbrev pub decreases-loop-t : goal.decreases-loop-t
decreases-loop-t g l = l.count - l.t
