use Rattle.std.proofs.Common.{◌≡◌, ◌+◌, ◌<◌, ℕ, length, get_or, bit_xor}
use Rattle.dg_parity.specs.Exclusive.{xor_upto, with_at}
use Rattle.dg_parity.specs.Groups.{Holds, AllTold, LeavesGroup, MostCalls, in_upto}
use Rattle.dg_parity.proofs.parts.add_others.Given as goal

abbrev pub invariant-loop-j : goal.invariant-loop-j
invariant-loop-j g l = record {
  end : l.j-end ≡ l.fn.group.disks;
  same : l.group ≡ l.fn.group;
  leaves : LeavesGroup g.R.Rack l.fn.group l.group l.fn.rack l.rack;
  holds : (has : ℕ → ℕ → ℕ) → AllTold g.R.Rack l.group l.rack → Holds g.R.Rack l.fn.group l.fn.rack has → Holds g.R.Rack l.group l.rack has;
  calls : MostCalls g.R.Rack (in_upto l.fn.group l.j) l.fn.rack l.rack;
  added : (has : ℕ → ℕ → ℕ) → AllTold g.R.Rack l.group l.rack → Holds g.R.Rack l.fn.group l.fn.rack has → (k : ℕ) → k < length l.row
      → get_or l.row k 0 ≡ bit_xor (get_or l.fn.row k 0) (xor_upto (with_at (with_at (λ i. has i (l.place + k)) l.a 0) l.b 0) l.j);
}
