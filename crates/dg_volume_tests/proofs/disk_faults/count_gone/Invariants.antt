use Rattle.dg_volume.specs.Volumes.{any_phase}
use Rattle.dg_volume_tests.specs.Grouped.{IsOfGroups}
use Rattle.dg_volume_tests.proofs.disk_faults.count_gone.Given as goal

abbrev pub invariant-loop-block : goal.invariant-loop-block
invariant-loop-block g l = IsOfGroups any_phase g.R.Rack l.volume
