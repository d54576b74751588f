use Rattle.dg_volume.specs.Volumes.{any_phase, loose_phase}
use Rattle.dg_volume_tests.proofs.LiveGroupLemmas.{blank_live_groups, stays_live}
use Rattle.dg_volume_tests.proofs.live_disks.blank.Goals as goal

pub returns-in-Ok : goal.returns-in-Ok
returns-in-Ok g c =
    let l = c.in_ok-live in
    let b = c.in-Ok in
    let made = blank_live_groups g.R.Rack c.names_tell_boundaries.ensures c.args.shape c.requires.shape c.args.rack 4 3 c.in_ok-groups.groups l.live b.volume c.in_ok-groups.ensures l.ensures.rack l.ensures.live c.requires.few b.ensures in
    stays_live loose_phase any_phase g.R.Rack b.volume c.into_any.result c.into_any.ensures.leaves made
