use Rattle.dg_stop.proofs.Sparing.{openings_spare}
use Rattle.dg_stop.proofs.openings.openings_spare.Goals as goal

pub returns : goal.returns
returns c = openings_spare
