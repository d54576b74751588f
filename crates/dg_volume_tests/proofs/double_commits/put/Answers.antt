use Rattle.dg_store.specs.Leaves.{IsCallBelow}
use Rattle.dg_volume.specs.Volumes.{any_phase}
use Rattle.dg_volume_tests.proofs.RoomLemmas.{stays_roomy}
use Rattle.dg_volume_tests.proofs.double_commits.put.Goals as goal

pub returns : goal.returns
returns g c = stays_roomy any_phase any_phase g.R.Rack g.R.Checkpoint.room_of IsCallBelow c.args.volume.now c.write_even.new.volume c.in_ok-_answer.ensures c.requires
