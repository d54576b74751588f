use Rattle.dg_volume.specs.Volumes.{any_phase}
use Rattle.dg_volume_tests.specs.Rooms.{HasRoom}
use Rattle.dg_volume_tests.proofs.double_commits.keep_times.Given as goal

abbrev pub invariant-loop-turn : goal.invariant-loop-turn
invariant-loop-turn g l = HasRoom any_phase g.R.Rack g.R.Checkpoint.room_of l.volume
