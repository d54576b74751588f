use Rattle.dg_stop.proofs.OpenedLemmas.{openings_hold}
use Rattle.dg_stop.proofs.openings.openings_hold.Goals as goal

pub returns : goal.returns
returns c = openings_hold
