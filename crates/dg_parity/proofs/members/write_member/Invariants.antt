use Rattle.std.proofs.Common.{◌≡◌, ◌+◌, ◌-◌, ◌≤◌, ◌⊎◌, ℕ, List, false, length, take}
use Rattle.dg_io.specs.Told.{patch}
use Rattle.dg_parity.specs.Groups.{is_lost, is_out, AllTold, FellOne, LeavesGroup, StandsFor, StaysOrFell}
use Rattle.dg_parity.specs.Runs.{passes_in}
use Rattle.dg_parity.proofs.UpdateSteps.{IsLeast}
use Rattle.dg_parity.proofs.WriteSteps.{IsPut}
use Rattle.dg_parity.proofs.members.write_member.Given as goal

abbrev pub invariant-loop-done : goal.invariant-loop-done
invariant-loop-done g l = record {
  within : l.done ≤ length l.buf;
  alive : is_lost l.group ≡ false;
  calls : IsPut l.fn.group.disks l.place (length l.buf) (g.R.Rack.counts l.fn.rack).calls (g.R.Rack.counts l.rack).calls
      (passes_in l.fn.group.disks l.place (length l.buf)) (passes_in l.fn.group.disks (l.place + l.done) (length l.buf - l.done)) l.done;
  steady : StaysOrFell l.fn.group l.group;
  least : ((l.group ≡ l.fn.group) × IsLeast g.R.Rack l.fn.group.disks (is_out l.fn.group) l.place (length l.buf) (passes_in l.fn.group.disks l.place (length l.buf))
      (passes_in l.fn.group.disks (l.place + l.done) (length l.buf - l.done)) l.done l.fn.rack l.rack) ⊎ FellOne l.fn.group l.group;
  leaves : LeavesGroup g.R.Rack l.fn.group l.group l.fn.rack l.rack;
  put : (bytes : List ℕ) → AllTold g.R.Rack l.group l.rack → StandsFor g.R.Rack l.fn.group l.fn.rack bytes
      → StandsFor g.R.Rack l.group l.rack (patch bytes l.place (take l.done l.buf));
}

abbrev pub decreases-loop-done : goal.decreases-loop-done
decreases-loop-done g l = length l.buf - l.done
