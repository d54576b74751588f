use Rattle.dg_regroup.specs.LiveGhosts.{live}
use Rattle.dg_regroup.specs.LiveRacks.{live_count}
use Rattle.dg_volume.specs.Volumes.{any_phase, loose_phase}
use Rattle.dg_volume_tests.proofs.LiveLemmas.{all_ready}
use Rattle.dg_volume_tests.proofs.ReadyLemmas.{stays_ready}
use Rattle.dg_volume_tests.proofs.calls.blank_live.Goals as goal

pub returns-in-Ok : goal.returns-in-Ok
returns-in-Ok g c =
    let l = c.in_ok-live in
    let b = c.in-Ok in
    let ready = all_ready g.R.Rack c.names_tell_boundaries.ensures c.args.shape c.requires l.live l.ensures.live b.blank b.ensures in
    stays_ready loose_phase any_phase (live g.R.Rack) live_count b.blank c.into_any.result c.into_any.ensures.leaves ready
