use Rattle.dg_stop.proofs.Stopping.{stops_leave_old_or_new}
use Rattle.dg_stop.proofs.laws.stops_leave_old_or_new.Goals as goal

pub returns : goal.returns
returns c = stops_leave_old_or_new
