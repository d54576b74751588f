use Rattle.dg_stop.proofs.FindLemmas.{looks_none}
use Rattle.dg_stop.proofs.tables.places_of.Goals as goal

pub returns-in_ok-new-in-None-clause-looks : goal.returns-in_ok-new-in-None-clause-looks
returns-in_ok-new-in-None-clause-looks g c = looks_none g.R.Rack c.args.member c.in_ok-new-in-None.field-0 c.args.rack.now
