use Rattle.dg_stop.specs.DoubleCommits.{SettlesBelow}
use Rattle.dg_stop.proofs.settles.settle_all.Given as goal

abbrev pub invariant-loop-number : goal.invariant-loop-number
invariant-loop-number l = SettlesBelow l.number l.served l.serves l.initial.memory l.memory
