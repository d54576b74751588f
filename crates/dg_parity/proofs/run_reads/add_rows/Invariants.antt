use Rattle.std.proofs.Common.{◌≡◌, ◌≢◌, ◌+◌, ◌*◌, ◌<◌, ℕ, length, get_or, bit_xor}
use Rattle.dg_parity.specs.Exclusive.{xor_upto, with_at}
use Rattle.dg_parity.specs.Stripes.{spot_of}
use Rattle.dg_parity.specs.Groups.{Holds, AllTold, LeavesGroup, MostCalls, in_upto}
use Rattle.dg_parity.proofs.run_reads.add_rows.Given as goal

abbrev pub invariant-loop-j : goal.invariant-loop-j
invariant-loop-j g l = record {
  end : l.j-end ≡ l.fn.group.disks;
  same : l.group ≡ l.fn.group;
  leaves : LeavesGroup g.R.Rack l.fn.group l.group l.fn.rack l.rack;
  holds : (has : ℕ → ℕ → ℕ) → AllTold g.R.Rack l.group l.rack → Holds g.R.Rack l.fn.group l.fn.rack has → Holds g.R.Rack l.group l.rack has;
  got : (has : ℕ → ℕ → ℕ) → AllTold g.R.Rack l.group l.rack → Holds g.R.Rack l.fn.group l.fn.rack has → (k : ℕ) → k < length l.buf
      → (spot_of l.fn.group.disks (l.at + k)).disk < l.j → (spot_of l.fn.group.disks (l.at + k)).disk ≢ l.o
      → get_or l.buf k 0 ≡ has (spot_of l.fn.group.disks (l.at + k)).disk (spot_of l.fn.group.disks (l.at + k)).place;
  added : (has : ℕ → ℕ → ℕ) → AllTold g.R.Rack l.group l.rack → Holds g.R.Rack l.fn.group l.fn.rack has → (k : ℕ) → k < length l.sum
      → get_or l.sum k 0 ≡ bit_xor (get_or l.fn.sum k 0) (xor_upto (with_at (λ i. has i (512 + 512 * l.window.first + k)) l.o 0) l.j);
  calls : MostCalls g.R.Rack (in_upto l.fn.group l.j) l.fn.rack l.rack;
}
