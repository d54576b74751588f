use Rattle.dg_parity.proofs.ReadsOnLemmas.{over-on, over-tells}
use Rattle.dg_parity.proofs.parity_racks.ParityRack.open.Goals as goal

pub returns-clause-tells : goal.returns-clause-tells
returns-clause-tells g c =
    over-tells g.R.Rack c.args.rack c.open_groups.new.rack c.in-Some.found.width c.in-Some.found.groups.items c.over.result c.over.ensures.is c.over.ensures.tally (rw c.in-Some.is at c.in_ok-found.ensures.opened)

pub returns-clause-reads_on : goal.returns-clause-reads_on
returns-clause-reads_on g c =
    over-on g.R.Rack c.args.rack c.open_groups.new.rack c.in-Some.found.width c.in-Some.found.groups.items c.over.result c.over.ensures.is c.over.ensures.tally (rw c.in-Some.is at c.in_ok-found.ensures.opened)
    c.open_groups.ensures.leaves
