use Rattle.dg_volume.specs.Volumes.{any_phase}
use Rattle.dg_volume_tests.proofs.LiveGroupLemmas.{handled_live, has_live_groups}
use Rattle.dg_volume_tests.proofs.live_disks.drops.Goals as goal

pub drop_disk-requires-clause-well : goal.drop_disk-requires-clause-well
drop_disk-requires-clause-well g c = c.requires.ready.well

pub drop_disk-requires-clause-groups : goal.drop_disk-requires-clause-groups
drop_disk-requires-clause-groups g c = has_live_groups any_phase g.R.Rack c.args.volume.now c.requires

pub returns : goal.returns
returns g c = handled_live any_phase g.R.Rack c.args.boundary c.args.disk c.args.volume.now c.drop_disk.new.self c.drop_disk.ensures.on c.drop_disk.ensures.leaves c.requires
