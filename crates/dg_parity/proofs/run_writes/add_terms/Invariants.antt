use Rattle.std.proofs.Common.{◌≡◌, ◌+◌, ◌*◌, ◌<◌, ℕ, List, false, length, get_or, bit_xor}
use Rattle.dg_io.specs.Told.{patch}
use Rattle.dg_parity.specs.Exclusive.{xor_upto}
use Rattle.dg_model.specs.Moves.{sum_upto}
use Rattle.dg_parity.specs.Updates.{reads_on, StaysWithin}
use Rattle.dg_parity.specs.Groups.{is_lost, is_out, Holds, AllTold, LeavesGroup, MostCalls, StaysOrFell}
use Rattle.dg_parity.specs.Runs.{IsWhole, laid, term_of}
use Rattle.dg_parity.proofs.run_writes.add_terms.Given as goal

abbrev pub invariant-loop-j : goal.invariant-loop-j
invariant-loop-j g l = record {
  end : l.j-end ≡ l.fn.group.disks;
  alive : is_lost l.group ≡ false;
  leaves : LeavesGroup g.R.Rack l.fn.group l.group l.fn.rack l.rack;
  holds : (has : ℕ → ℕ → ℕ) → AllTold g.R.Rack l.group l.rack → Holds g.R.Rack l.fn.group l.fn.rack has → Holds g.R.Rack l.group l.rack has;
  added : (bytes : List ℕ) → length bytes ≡ l.fn.group.length → AllTold g.R.Rack l.group l.rack → Holds g.R.Rack l.fn.group l.fn.rack (laid l.fn.group.disks bytes)
      → (r : ℕ) → r < 512 → get_or l.page r 0 ≡ bit_xor (get_or l.fn.page r 0) (xor_upto (term_of l.fn.group.disks l.t l.by_change bytes (patch bytes l.at l.piece) r) l.j);
  idle : l.by_change ≡ false → IsWhole l.fn.group.disks l.t l.at (length l.piece) → l.rack ≡ l.fn.rack;
  steady : StaysOrFell l.fn.group l.group;
  few : StaysWithin g.R.Rack (sum_upto l.j (reads_on l.fn.group.disks (is_out l.fn.group) l.at (length l.piece) l.t l.by_change)) l.fn.group l.group l.fn.rack l.rack;
  calls : MostCalls g.R.Rack ((l.fn.group.disks + 1) * l.j) l.fn.rack l.rack;
}
