use Rattle.std.proofs.Common.{◌≡◌, ℕ, length}
use Rattle.dg_stop.specs.Tables.{AreBorne, AreRoomy, FindsOn, HoldsAt}
use Rattle.dg_stop.proofs.tables.read_all.Given as goal

abbrev pub invariant-loop-member : goal.invariant-loop-member
invariant-loop-member g l = record {
  finds : FindsOn g.R.Rack l.initial.rack l.rack;
  borne : AreBorne g.R.Rack l.heads l.rack;
  count : length l.all.items ≡ l.member;
  roomy : AreRoomy l.heads l.most l.all.items;
  holds : (q : ℕ) → HoldsAt g.R.Rack l.rack l.heads l.all.items q;
}
