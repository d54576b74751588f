use Rattle.std.proofs.Common.{◌≡◌, ℕ, zero, suc, get_or, replicate, refl}
use Rattle.dg_stop.proofs.tallies.Tally.new.Goals as goal

zeros_at : (n q : ℕ) → get_or {A = ℕ} (replicate n 0) q 0 ≡ 0
zeros_at zero q = refl
zeros_at (suc n) zero = refl
zeros_at (suc n) (suc q) = zeros_at n q

pub returns-clause-faults : goal.returns-clause-faults
returns-clause-faults c q = zeros_at 256 q
