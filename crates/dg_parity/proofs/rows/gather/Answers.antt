use Rattle.std.proofs.Common.{refl}
use Rattle.dg_parity.proofs.RowLemmas.{gathers-more}
use Rattle.dg_parity.proofs.rows.gather.Goals as goal

pub loop-q-preserved : goal.loop-q-preserved
loop-q-preserved c = record {
  end = refl;
  rows = gathers-more c.args.n c.args.j c.args.window.first c.loop-q.q c.args.at c.args.piece.now c.args.parities.now c.loop-q.row c.gather_chunk.new.row c.gather_chunk.ensures c.loop-q.invariant.rows;
}
