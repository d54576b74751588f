use Rattle.std.proofs.Common.{◌≡◌, ◌+◌, ◌-◌, ◌<◌, ◌≤◌, ℕ, get_or}
use Rattle.dg_parity.proofs.overlaps.copy_into.Given as goal

abbrev pub invariant-loop-i : goal.invariant-loop-i
invariant-loop-i l = record {
  end : l.i-end ≡ l.low + l.count;
  done : (k : ℕ) → l.low ≤ k → k < l.i → get_or l.to k 0 ≡ get_or l.from (l.skip + (k - l.low)) 0;
  before : (k : ℕ) → k < l.low → get_or l.to k 0 ≡ get_or l.fn.to k 0;
  behind : (k : ℕ) → l.i ≤ k → get_or l.to k 0 ≡ get_or l.fn.to k 0;
}
