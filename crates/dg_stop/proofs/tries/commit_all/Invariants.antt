use Rattle.dg_stop.proofs.TriesLemmas.{TriesSoFar}
use Rattle.dg_stop.specs.Tries.{count_in}
use Rattle.dg_stop.proofs.tries.commit_all.Given as goal

abbrev pub invariant-loop-sequence : goal.invariant-loop-sequence
invariant-loop-sequence g l = TriesSoFar g.R.Rack l.members l.room l.last l.initial.top l.initial.serving l.serving l.tried l.top l.initial.rack l.rack

abbrev pub decreases-loop-sequence : goal.decreases-loop-sequence
decreases-loop-sequence g l = count_in l.serving
