use Rattle.std.proofs.Common.{◌≡◌, ◌<◌, ℕ}
use Rattle.std.specs.Prelude.{None}
use Rattle.dg_parity.specs.Openings.{fronts_by}
use Rattle.dg_parity.proofs.array_openings.width_of.Given as goal

abbrev pub invariant-loop-s : goal.invariant-loop-s
invariant-loop-s l = record { none : (t j : ℕ) → t < l.s → j < 8 → fronts_by l.fn.rows t j ≡ None }
