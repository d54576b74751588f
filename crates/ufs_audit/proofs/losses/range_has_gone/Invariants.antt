use Rattle.std.proofs.Common.{◌≡◌, ◌<◌, ◌≤◌, ℕ, false}
use Rattle.ufs_audit.proofs.losses.range_has_gone.Given as goal

abbrev pub invariant-loop-b : goal.invariant-loop-b
invariant-loop-b g l = (c : ℕ) → l.from ≤ c → c < l.b → g.V.View.is_gone l.view c ≡ false
