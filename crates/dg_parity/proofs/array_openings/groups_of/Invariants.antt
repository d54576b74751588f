use Rattle.std.proofs.Common.{◌≡◌, length}
use Rattle.dg_parity.specs.Openings.{AreOpened, fronts_by}
use Rattle.dg_parity.proofs.array_openings.groups_of.Given as goal

abbrev pub invariant-loop-s : goal.invariant-loop-s
invariant-loop-s g l = record {
  count : length l.groups.items ≡ l.s;
  opened : AreOpened g.R.Rack l.fn.rack (fronts_by l.fn.rows) l.fn.n l.groups.items;
}
