use Rattle.std.proofs.Common.{◌≡◌, ◌≢◌, ◌+◌, ◌-◌, ◌*◌, ◌/◌, ◌%◌, ◌<◌, ◌≤◌, ℕ, length, get_or}
use Rattle.dg_parity.specs.Stripes.{spot_of, stripe_of}
use Rattle.dg_parity.proofs.windows.scatter.Given as goal

abbrev pub invariant-loop-q : goal.invariant-loop-q
invariant-loop-q l = record {
  end : l.q-end ≡ length l.row / 512;
  own : (k : ℕ) → k < length l.buf → (spot_of l.n (l.at + k)).disk ≡ l.j → l.first ≤ stripe_of l.n ((l.at + k) / 512) → stripe_of l.n ((l.at + k) / 512) < l.first + l.q
      → get_or l.buf k 0 ≡ get_or l.row (512 * (stripe_of l.n ((l.at + k) / 512) - l.first) + (l.at + k) % 512) 0;
  disks : (k : ℕ) → k < length l.buf → (spot_of l.n (l.at + k)).disk ≢ l.j → get_or l.buf k 0 ≡ get_or l.fn.buf k 0;
}
