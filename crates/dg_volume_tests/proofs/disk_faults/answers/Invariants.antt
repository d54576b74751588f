use Rattle.dg_volume.specs.Volumes.{any_phase}
use Rattle.dg_volume_tests.specs.Grouped.{IsOfGroups}
use Rattle.dg_volume_tests.proofs.disk_faults.answers.Given as goal

abbrev pub invariant-loop-call : goal.invariant-loop-call
invariant-loop-call g l = IsOfGroups any_phase g.R.Rack l.volume
