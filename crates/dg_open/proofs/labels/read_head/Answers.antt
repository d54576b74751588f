use Rattle.std.proofs.Common.{arith}
use Rattle.dg_open.proofs.FoundLemmas.{has_head}
use Rattle.dg_open.proofs.ReadLemmas.{one_call}
use Rattle.dg_open.proofs.labels.read_head.Goals as goal

pub returns-in-Ok-clause-is : goal.returns-in-Ok-clause-is
returns-in-Ok-clause-is g c = has_head g.R.Rack c.args.rack.now c.read.new.self c.args.member c.args.length c.read.new.buf c.requires.attached c.read.ensures.same c.in-Ok.ensures.ok
    (omega (arith, c.read.auto.buf)) (c.in-Ok.ensures.leaves.stands_on c.requires.attached.stands)

pub returns-in-Ok-clause-reads : goal.returns-in-Ok-clause-reads
returns-in-Ok-clause-reads g c =
    let did = c.read.ensures in
    one_call g.R.Rack g.met.R.Rack.after c.args.member c.read.result _ _ _ did.made did.leaves did.same did.writes c.requires.within

pub returns-in-Err-clause-reads : goal.returns-in-Err-clause-reads
returns-in-Err-clause-reads g c =
    let did = c.read.ensures in
    one_call g.R.Rack g.met.R.Rack.after c.args.member c.read.result _ _ _ did.made did.leaves did.same did.writes c.requires.within
