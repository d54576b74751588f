use Rattle.std.proofs.Common.{◌≡◌, ◌+◌, ℕ, List, length}
use Rattle.dg_io.specs.Told.{patch}
use Rattle.dg_parity.specs.Groups.{is_out, Holds, AllTold, LeavesGroup, MostCalls, StaysOrFell}
use Rattle.dg_model.specs.Moves.{sum_upto}
use Rattle.dg_parity.specs.Updates.{writes_on, StaysWithin}
use Rattle.dg_parity.specs.Runs.{ArePages, laid, mixed}
use Rattle.dg_parity.proofs.run_writes.write_rows.Given as goal

abbrev pub invariant-loop-j : goal.invariant-loop-j
invariant-loop-j g l = record {
  end : l.j-end ≡ l.fn.group.disks;
  leaves : LeavesGroup g.R.Rack l.fn.group l.group l.fn.rack l.rack;
  put : (bytes : List ℕ) → length bytes ≡ l.fn.group.length → AllTold g.R.Rack l.group l.rack
      → ArePages l.fn.group.disks l.window.first l.window.count (is_out l.fn.group) (patch bytes l.at l.piece) l.parities
      → Holds g.R.Rack l.fn.group l.fn.rack (laid l.fn.group.disks bytes)
      → Holds g.R.Rack l.group l.rack (mixed l.fn.group.disks bytes (patch bytes l.at l.piece) l.j);
  steady : StaysOrFell l.fn.group l.group;
  few : StaysWithin g.R.Rack (sum_upto l.j (λ j. sum_upto l.window.count (λ q. writes_on l.fn.group.disks (is_out l.fn.group) l.at (length l.piece) (l.window.first + q) j)))
      l.fn.group l.group l.fn.rack l.rack;
  calls : MostCalls g.R.Rack l.j l.fn.rack l.rack;
}
