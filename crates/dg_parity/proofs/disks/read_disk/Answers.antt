use Rattle.dg_parity.proofs.GroupLemmas.{Marks, failed-at, read-done-at}
use Rattle.dg_parity.proofs.CallLemmas.{held-failed-at, held-read-at}
use Rattle.dg_parity.proofs.disks.read_disk.Goals as goal

pub returns-in-Err-clause-leaves : goal.returns-in-Err-clause-leaves
returns-in-Err-clause-leaves g c =
    let m : Marks c.args.group.now c.mark.new.self c.args.j = record { later = c.mark.ensures.later; others = c.mark.ensures.others; out = c.mark.ensures.out; noted = c.mark.ensures.noted } in
    failed-at g.R.Rack c.args.group.now c.mark.new.self c.args.j c.disk.result c.in-Err.field-0 c.args.rack.now c.read.new.self
    c.disk.ensures c.requires.disk c.requires.there c.in-Err.ensures.leaves c.requires.ready m

pub returns-in-Err-clause-holds : goal.returns-in-Err-clause-holds
returns-in-Err-clause-holds g c =
    let m : Marks c.args.group.now c.mark.new.self c.args.j = record { later = c.mark.ensures.later; others = c.mark.ensures.others; out = c.mark.ensures.out; noted = c.mark.ensures.noted } in
    held-failed-at g.R.Rack c.args.group.now c.mark.new.self c.args.j c.disk.result c.args.rack.now c.read.new.self c.disk.ensures m c.in-Err.ensures.leaves.others

pub returns-in-Ok-clause-leaves : goal.returns-in-Ok-clause-leaves
returns-in-Ok-clause-leaves g c =
    read-done-at g.R.Rack c.args.group.now c.args.j c.disk.result c.in-Ok.field-0 c.args.rack.now c.read.new.self c.disk.ensures c.requires.disk c.requires.there
    c.in-Ok.ensures.leaves c.requires.ready c.in-Ok.ensures.same

pub returns-in-Ok-clause-holds : goal.returns-in-Ok-clause-holds
returns-in-Ok-clause-holds g c =
    held-read-at g.R.Rack c.args.group.now c.args.j c.disk.result c.args.rack.now c.read.new.self c.disk.ensures c.in-Ok.ensures.same c.in-Ok.ensures.leaves.others
