use Rattle.dg_open.proofs.ReadLemmas.{one_call}
use Rattle.dg_open.proofs.labels.attach.Goals as goal

pub returns-in-Ok-clause-reads : goal.returns-in-Ok-clause-reads
returns-in-Ok-clause-reads g c =
    let did = c.attach.ensures in
    one_call g.R.Rack g.met.R.Rack.after c.args.member c.attach.result _ _ _ did.made did.leaves did.same did.writes c.requires.within

pub returns-in-Err-clause-reads : goal.returns-in-Err-clause-reads
returns-in-Err-clause-reads g c =
    let did = c.attach.ensures in
    one_call g.R.Rack g.met.R.Rack.after c.args.member c.attach.result _ _ _ did.made did.leaves did.same did.writes c.requires.within
