use Rattle.dg_parity.specs.ParityRacks.{parity_words}
use Rattle.dg_regroup.specs.LiveGhosts.{live}
use Rattle.dg_regroup.specs.LiveRacks.{live_count}
use Rattle.dg_volume.specs.Volumes.{any_phase}
use Rattle.dg_volume_tests.proofs.LiveGroupLemmas.{regrouped_live}
use Rattle.dg_volume_tests.proofs.ReadyLemmas.{has_boundaries}
use Rattle.dg_volume_tests.proofs.live_disks.goes_on.Goals as goal

pub regroup-requires-clause-well : goal.regroup-requires-clause-well
regroup-requires-clause-well g c = c.requires.ready.well

pub regroup-requires-clause-boundaries : goal.regroup-requires-clause-boundaries
regroup-requires-clause-boundaries g c = has_boundaries any_phase (live (parity_words g.R.Rack)) live_count c.args.volume.now c.requires.ready

pub returns-in-Ok : goal.returns-in-Ok
returns-in-Ok g c = regrouped_live g.R.Rack c.args.volume.now c.regroup.new.self c.in-Ok.answer c.regroup.ensures.on c.in-Ok.ensures.answer c.requires
