use Rattle.std.proofs.Common.{◌≡◌, ◌<◌, ℕ}
use Rattle.std.specs.Prelude.{Some}
use Rattle.dg_stop.specs.Tables.{head_at}
use Rattle.dg_stop.specs.declared.headers.Header.{Header}
use Rattle.dg_stop.proofs.tables.first_of.Given as goal

abbrev pub invariant-loop-member : goal.invariant-loop-member
invariant-loop-member l = (q : ℕ) (h : Header) → q < l.member → head_at l.heads q ≡ Some h → ⊥
