use Rattle.dg_stop.proofs.Opening.{openings_leave_kept}
use Rattle.dg_stop.proofs.laws.openings_leave_kept.Goals as goal

pub returns : goal.returns
returns c = openings_leave_kept
