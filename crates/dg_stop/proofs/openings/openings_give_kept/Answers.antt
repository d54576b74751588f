use Rattle.dg_stop.proofs.SessionLemmas.{doubles_give_kept, plains_give_nothing}
use Rattle.dg_stop.proofs.openings.openings_give_kept.Goals as goal

pub returns-clause-double : goal.returns-clause-double
returns-clause-double g c = doubles_give_kept g.R.Rack

pub returns-clause-plain : goal.returns-clause-plain
returns-clause-plain g c = plains_give_nothing g.R.Rack
