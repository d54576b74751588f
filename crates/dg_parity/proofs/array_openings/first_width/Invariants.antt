use Rattle.std.proofs.Common.{◌≡◌, ◌<◌, ℕ}
use Rattle.std.specs.Prelude.{None}
use Rattle.dg_parity.specs.Openings.{fronts_in}
use Rattle.dg_parity.proofs.array_openings.first_width.Given as goal

abbrev pub invariant-loop-j : goal.invariant-loop-j
invariant-loop-j l = record { none : (i : ℕ) → i < l.j → fronts_in l.fn.row i ≡ None }
