use Rattle.dg_open.proofs.ReadLemmas.{one_none}
use Rattle.dg_open.proofs.bodies.state_at.Goals as goal

pub returns-in-None-clause-reads : goal.returns-in-None-clause-reads
returns-in-None-clause-reads g c = one_none g.R.Rack c.args.member c.args.rack.now
