use Rattle.dg_stop.proofs.SettleLemmas.{MarksBelow}
use Rattle.dg_stop.proofs.marks.marks_of_fallen.Given as goal

abbrev pub invariant-loop-number : goal.invariant-loop-number
invariant-loop-number l = MarksBelow l.number l.served l.serves l.marks
