use Rattle.dg_stop.specs.DoubleCommits.{FaultsBelow}
use Rattle.dg_stop.proofs.tallies.Tally.note_fallen.Given as goal

abbrev pub invariant-loop-number : goal.invariant-loop-number
invariant-loop-number l = FaultsBelow l.number l.served l.serves l.initial.self l.self
