use Rattle.std.proofs.Common.{◌≡◌, ◌≢◌, ◌+◌, ◌/◌, ◌<◌, ℕ}
use Rattle.dg_parity.specs.Stripes.{spot_of, stripe_of}
use Rattle.dg_parity.proofs.windows.is_wanted.Given as goal

abbrev pub invariant-loop-q : goal.invariant-loop-q
invariant-loop-q l = record {
  end : l.q-end ≡ l.window.count;
  none : (k : ℕ) → k < l.size → stripe_of l.n ((l.at + k) / 512) < l.window.first + l.q → (spot_of l.n (l.at + k)).disk ≢ l.j;
}
