use Rattle.dg_volume.specs.Volumes.{IsWell, any_phase}
use Rattle.dg_volume_tests.proofs.opened_tests.check_blocks.Given as goal

abbrev pub invariant-loop-block : goal.invariant-loop-block
invariant-loop-block g l = IsWell any_phase g.R.Rack l.volume
