use Rattle.std.proofs.Common.{◌≡◌}
use Rattle.dg_parity.specs.Runs.{GathersRow}
use Rattle.dg_parity.proofs.rows.gather.Given as goal

abbrev pub invariant-loop-q : goal.invariant-loop-q
invariant-loop-q l = record {
  end : l.q-end ≡ l.window.count;
  rows : GathersRow l.n l.j l.window.first l.at l.piece l.parities l.row l.q;
}
