use Rattle.dg_volume.specs.Volumes.{any_phase}
use Rattle.dg_volume_tests.specs.Ready.{IsReady}
use Rattle.dg_volume_tests.proofs.opened_tests.lose_and_save.Given as goal

abbrev pub invariant-loop-block : goal.invariant-loop-block
invariant-loop-block g l = IsReady any_phase g.R.Rack g.R.Reduces.boundaries l.volume
