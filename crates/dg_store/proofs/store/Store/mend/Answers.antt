use Rattle.dg_store.proofs.OtherRack.{disk_leaves}
use Rattle.dg_store.proofs.store.Store.mend.Goals as goal

pub returns-clause-leaves : goal.returns-clause-leaves
returns-clause-leaves g c =
    let e = c.mend.ensures in
    disk_leaves g.R.Rack g.met.R.Rack.told c.args.self.now c.mend.new.self g.R.Disks.width g.R.Disks.groups c.args.s c.args.j e.disks e.leaves e.width e.groups e.idle
