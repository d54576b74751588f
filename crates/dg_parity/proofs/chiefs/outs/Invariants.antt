use Rattle.std.proofs.Common.{◌≡◌, ◌<◌, ◌≤◌, ◌↔◌, ℕ, false, length}
use Rattle.std.specs.Prelude.{slice_index_or}
use Rattle.dg_parity.specs.Openings.{IsIn, fronts_in}
use Rattle.dg_parity.proofs.chiefs.outs.Given as goal

abbrev pub invariant-loop-j : goal.invariant-loop-j
invariant-loop-j l = record {
  size : length l.out ≡ 8;
  ins : (i : ℕ) → i < l.j → (slice_index_or l.out i false ≡ false) ↔ IsIn (fronts_in l.fn.fronts) l.fn.n l.fn.chief i;
  rest : (i : ℕ) → l.j ≤ i → slice_index_or l.out i false ≡ false;
}
