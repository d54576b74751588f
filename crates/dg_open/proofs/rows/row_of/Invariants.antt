use Rattle.std.proofs.Common.{◌≡◌, ◌+◌, length}
use Rattle.dg_open.proofs.RowLemmas.{CountedBelow}
use Rattle.dg_open.proofs.rows.row_of.Given as goal
use Rattle.dg_store.specs.Rows.{RowStands, members_in}

abbrev pub invariant-loop-number : goal.invariant-loop-number
invariant-loop-number l = record {
  count : length l.row.items ≡ l.number;
  stands : RowStands l.shape.l (l.shape.k + 1) l.row.items;
  members : CountedBelow l.labels l.failed l.source l.marks l.number (members_in l.row.items);
}
