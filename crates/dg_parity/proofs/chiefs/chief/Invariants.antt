use Rattle.dg_parity.specs.Openings.{IsBest, fronts_in}
use Rattle.dg_parity.proofs.chiefs.chief.Given as goal

abbrev pub invariant-loop-j : goal.invariant-loop-j
invariant-loop-j l = record {
  best : IsBest (fronts_in l.fn.fronts) l.fn.n l.j l.best;
}
