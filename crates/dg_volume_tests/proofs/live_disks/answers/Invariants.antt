use Rattle.dg_volume.specs.Volumes.{any_phase}
use Rattle.dg_volume_tests.specs.Grouped.{IsOfLiveGroups}
use Rattle.dg_volume_tests.proofs.live_disks.answers.Given as goal

abbrev pub invariant-loop-call : goal.invariant-loop-call
invariant-loop-call g l = IsOfLiveGroups any_phase g.R.Rack l.volume
