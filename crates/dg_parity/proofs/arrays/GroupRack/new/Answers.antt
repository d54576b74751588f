use Rattle.dg_parity.proofs.ArraySteps.{new_held, new_over}
use Rattle.dg_parity.proofs.arrays.GroupRack.new.Goals as goal

pub invariant_of-result : goal.invariant_of-result
invariant_of-result g c = new_held g.R.Rack c.args.disks c.in_ok-groups.groups.items c.args.rack c.in_ok-groups.ensures.new

pub returns : goal.returns
returns g c =
    new_over g.R.Rack c.args.disks c.in_ok-groups.groups.items c.args.rack c.in_ok-groups.ensures.new c.args.groups c.new.result c.in_ok-groups.ensures.count c.new.ensures
