use Rattle.dg_open.proofs.ReadLemmas.{one_call}
use Rattle.dg_open.proofs.bodies.read_body.Goals as goal

pub returns-in-Ok-read-clause-reads : goal.returns-in-Ok-read-clause-reads
returns-in-Ok-read-clause-reads g c =
    let did = c.read.ensures in
    one_call g.R.Rack g.met.R.Rack.after c.args.member c.read.result _ _ _ did.made did.leaves did.same did.writes c.requires.within

pub returns-in-Err-clause-reads : goal.returns-in-Err-clause-reads
returns-in-Err-clause-reads g c =
    let did = c.read.ensures in
    one_call g.R.Rack g.met.R.Rack.after c.args.member c.read.result _ _ _ did.made did.leaves did.same did.writes c.requires.within
