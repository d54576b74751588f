use Rattle.dg_store.specs.Leaves.{IsCallOrExtendBelow}
use Rattle.dg_volume.specs.Volumes.{any_phase}
use Rattle.dg_volume_tests.proofs.RoomLemmas.{stays_roomy}
use Rattle.dg_volume_tests.proofs.double_commits.saves.Goals as goal

pub returns-in-Ok-Saved : goal.returns-in-Ok-Saved
returns-in-Ok-Saved g c = stays_roomy any_phase any_phase g.R.Rack g.R.Checkpoint.room_of IsCallOrExtendBelow c.args.volume.now c.save.new.self c.save.ensures.leaves c.requires

pub returns-in-Ok-Lost : goal.returns-in-Ok-Lost
returns-in-Ok-Lost g c = stays_roomy any_phase any_phase g.R.Rack g.R.Checkpoint.room_of IsCallOrExtendBelow c.args.volume.now c.save.new.self c.save.ensures.leaves c.requires
