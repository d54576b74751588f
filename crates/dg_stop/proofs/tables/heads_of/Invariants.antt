use Rattle.std.proofs.Common.{◌≡◌, length}
use Rattle.dg_stop.specs.Tables.{AreHeads}
use Rattle.dg_stop.proofs.tables.heads_of.Given as goal

abbrev pub invariant-loop-member : goal.invariant-loop-member
invariant-loop-member l = record {
  size : length l.heads ≡ 32;
  heads : AreHeads l.lead l.found l.member l.heads;
}
