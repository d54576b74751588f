use Rattle.dg_stop.proofs.SettleLemmas.{FlagsBelow}
use Rattle.dg_stop.proofs.marks.flags_of.Given as goal

abbrev pub invariant-loop-number : goal.invariant-loop-number
invariant-loop-number l = FlagsBelow l.number l.marks l.flags
