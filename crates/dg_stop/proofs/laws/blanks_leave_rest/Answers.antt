use Rattle.dg_stop.proofs.Blanking.{blanks_leave_rest}
use Rattle.dg_stop.proofs.laws.blanks_leave_rest.Goals as goal

pub returns : goal.returns
returns c = blanks_leave_rest
