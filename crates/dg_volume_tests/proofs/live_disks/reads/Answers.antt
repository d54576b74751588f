use Rattle.dg_volume.specs.Volumes.{any_phase}
use Rattle.dg_volume_tests.proofs.LiveGroupLemmas.{stays_live}
use Rattle.dg_volume_tests.proofs.live_disks.reads.Goals as goal

pub read_even-requires : goal.read_even-requires
read_even-requires g c = c.requires.ready.well

pub returns : goal.returns
returns g c = stays_live any_phase any_phase g.R.Rack c.args.volume.now c.read_even.new.volume c.in_ok-answer.ensures c.requires
