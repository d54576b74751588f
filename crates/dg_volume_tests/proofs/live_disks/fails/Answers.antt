use Rattle.dg_volume.specs.Volumes.{any_phase}
use Rattle.dg_volume_tests.proofs.LiveGroupLemmas.{stays_live}
use Rattle.dg_volume_tests.proofs.live_disks.fails.Goals as goal

pub fail-requires : goal.fail-requires
fail-requires g c = record { well = c.requires.ready.well }

pub returns : goal.returns
returns g c = stays_live any_phase any_phase g.R.Rack c.args.volume.now c.fail.new.self c.fail.ensures.leaves c.requires
