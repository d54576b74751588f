use Rattle.dg_volume.specs.Volumes.{any_phase}
use Rattle.dg_volume_tests.proofs.GroupedLemmas.{stays_grouped}
use Rattle.dg_volume_tests.proofs.disk_faults.writes.Goals as goal

pub returns : goal.returns
returns g c = stays_grouped any_phase any_phase g.R.Rack c.args.volume.now c.write_even.new.volume c.in_ok-answer.ensures c.requires
