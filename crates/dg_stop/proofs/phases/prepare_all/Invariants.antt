use Rattle.dg_stop.specs.Phases.{PassedBelow}
use Rattle.dg_stop.proofs.phases.prepare_all.Given as goal

abbrev pub invariant-loop-number : goal.invariant-loop-number
invariant-loop-number g l = PassedBelow g.R.Rack l.members l.sequence l.room l.extra l.number l.initial.serving l.serving l.initial.rack l.rack
