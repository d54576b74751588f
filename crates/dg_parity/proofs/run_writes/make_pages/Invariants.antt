use Rattle.std.proofs.Common.{◌≡◌, ◌+◌, ◌*◌, ℕ, List, false, length}
use Rattle.dg_io.specs.Told.{patch}
use Rattle.dg_parity.specs.Groups.{is_lost, is_out, Holds, AllTold, LeavesGroup, StaysOrFell}
use Rattle.dg_model.specs.Moves.{sum_upto}
use Rattle.dg_parity.specs.Updates.{least_reads, StaysWithin}
use Rattle.dg_parity.specs.Runs.{ArePages, laid, reads_at}
use Rattle.dg_parity.proofs.WriteSteps.{IsRead}
use Rattle.dg_parity.proofs.run_writes.make_pages.Given as goal

abbrev pub invariant-loop-q : goal.invariant-loop-q
invariant-loop-q g l = record {
  end : l.q-end ≡ l.window.count;
  size : length l.parities ≡ length l.fn.parities;
  alive : is_lost l.group ≡ false;
  leaves : LeavesGroup g.R.Rack l.fn.group l.group l.fn.rack l.rack;
  holds : (has : ℕ → ℕ → ℕ) → AllTold g.R.Rack l.group l.rack → Holds g.R.Rack l.fn.group l.fn.rack has → Holds g.R.Rack l.group l.rack has;
  right : (bytes : List ℕ) → length bytes ≡ l.fn.group.length → AllTold g.R.Rack l.group l.rack → Holds g.R.Rack l.fn.group l.fn.rack (laid l.fn.group.disks bytes)
      → ArePages l.fn.group.disks l.window.first l.q (is_out l.group) (patch bytes l.at l.piece) l.parities;
  steady : StaysOrFell l.fn.group l.group;
  few : StaysWithin g.R.Rack (sum_upto l.q (λ i. least_reads l.fn.group.disks (is_out l.fn.group) l.at (length l.piece) (l.window.first + i))) l.fn.group l.group l.fn.rack l.rack;
  reads : IsRead ((l.fn.group.disks + 1) * l.fn.group.disks) (reads_at l.fn.group.disks l.at) (reads_at l.fn.group.disks (l.at + length l.piece)) l.window.count
      (g.R.Rack.counts l.fn.rack).calls (g.R.Rack.counts l.rack).calls l.q;
}
