use Rattle.dg_volume.specs.Volumes.{any_phase}
use Rattle.dg_volume_tests.proofs.GroupedLemmas.{handled_grouped, has_groups}
use Rattle.dg_volume_tests.proofs.disk_faults.drops.Goals as goal

pub drop_disk-requires-clause-groups : goal.drop_disk-requires-clause-groups
drop_disk-requires-clause-groups g c = has_groups any_phase g.R.Rack c.args.volume.now c.requires

pub returns : goal.returns
returns g c = handled_grouped any_phase g.R.Rack c.args.boundary c.args.disk c.args.volume.now c.drop_disk.new.self c.drop_disk.ensures.on c.drop_disk.ensures.leaves c.requires
