use Rattle.dg_stop.specs.StopRacks.{stop_room, stop_words}
use Rattle.dg_stop.specs.Ties.{calls_room}
use Rattle.dg_volume_tests.proofs.RoomLemmas.{kept_roomy}
use Rattle.dg_volume_tests.proofs.cut_commits.opened_double.Goals as goal

pub returns : goal.returns
returns g c = kept_roomy (stop_words g.R.Rack) stop_room (calls_room g.R.Rack) c.args.rack c.args.beside.now c.in-Opened.volume c.in-Opened._hot (rw c.in-Opened.is at c.in_ok-volume.ensures)
