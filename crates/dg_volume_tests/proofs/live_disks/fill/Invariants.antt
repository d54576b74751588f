use Rattle.dg_volume.specs.Volumes.{any_phase}
use Rattle.dg_volume_tests.specs.Grouped.{IsOfLiveGroups}
use Rattle.dg_volume_tests.proofs.live_disks.fill.Given as goal

abbrev pub invariant-loop-block : goal.invariant-loop-block
invariant-loop-block g l = IsOfLiveGroups any_phase g.R.Rack l.volume
