use Rattle.dg_stop.proofs.Writing.{writes_leave_kept}
use Rattle.dg_stop.proofs.laws.writes_leave_kept.Goals as goal

pub returns : goal.returns
returns c = writes_leave_kept
