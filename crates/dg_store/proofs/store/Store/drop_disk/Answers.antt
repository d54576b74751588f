use Rattle.dg_store.proofs.OtherRack.{disk_leaves}
use Rattle.dg_store.proofs.store.Store.drop_disk.Goals as goal

pub returns-clause-leaves : goal.returns-clause-leaves
returns-clause-leaves g c =
    let e = c.drop_disk.ensures in
    disk_leaves g.R.Rack g.met.R.Rack.told c.args.self.now c.drop_disk.new.self g.R.Disks.width g.R.Disks.groups c.args.s c.args.j e.disks e.leaves e.width e.groups e.idle
