use Rattle.dg_volume_tests.proofs.OpenedLemmas.{kept_well}
use Rattle.dg_volume_tests.proofs.double_commits.opened.Goals as goal

pub returns : goal.returns
returns g c = kept_well g.R.Rack g.R.Checkpoint.room_of c.args.rack c.args.beside.now c.in-Opened.volume c.in-Opened._hot (rw c.in-Opened.is at c.in_ok-volume.ensures)
