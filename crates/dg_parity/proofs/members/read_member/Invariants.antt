use Rattle.std.proofs.Common.{◌≡◌, ◌+◌, ◌-◌, ◌<◌, ◌≤◌, ℕ, List, false, length, get_or}
use Rattle.dg_parity.specs.Groups.{is_lost, AllTold, LeavesGroup, StandsFor}
use Rattle.dg_parity.specs.Runs.{passes_in}
use Rattle.dg_parity.proofs.RunSteps.{IsPassed}
use Rattle.dg_parity.proofs.members.read_member.Given as goal

abbrev pub invariant-loop-done : goal.invariant-loop-done
invariant-loop-done g l = record {
  size : length l.buf ≡ length l.fn.buf;
  within : l.done ≤ length l.buf;
  alive : is_lost l.group ≡ false;
  leaves : LeavesGroup g.R.Rack l.fn.group l.group l.fn.rack l.rack;
  stands : (bytes : List ℕ) → AllTold g.R.Rack l.group l.rack → StandsFor g.R.Rack l.fn.group l.fn.rack bytes → StandsFor g.R.Rack l.group l.rack bytes;
  got : (bytes : List ℕ) → AllTold g.R.Rack l.group l.rack → StandsFor g.R.Rack l.fn.group l.fn.rack bytes
      → (k : ℕ) → k < l.done → get_or l.buf k 0 ≡ get_or bytes (l.place + k) 0;
  passes : IsPassed g.R.Rack l.fn.group l.group l.fn.rack l.rack (passes_in l.fn.group.disks l.place (length l.fn.buf))
      (passes_in l.fn.group.disks (l.place + l.done) (length l.fn.buf - l.done));
}

abbrev pub decreases-loop-done : goal.decreases-loop-done
decreases-loop-done g l = length l.buf - l.done
