use Rattle.std.proofs.Common.{refl}
use Rattle.dg_volume.proofs.SealSteps.{calls_behind, falls_behind, labels_behind, lost_behind}
use Rattle.dg_volume.proofs.seals.write_opened.Goals as goal

pub returns-clause-most : goal.returns-clause-most
returns-clause-most g c =
    calls_behind g.R.Rack c.args.store.now c.open_where.new.store c.write.new.self c.args.label.now c.open_where.new.label c.args.block (c.open_where.ensures.opens refl) c.write.ensures.most

pub returns-clause-label : goal.returns-clause-label
returns-clause-label g c = λ line.
    labels_behind g.R.Rack line c.args.store.now c.open_where.new.store c.write.new.self c.args.label.now c.open_where.new.label c.requires.sound c.requires.whole
    (c.open_where.ensures.opens refl) c.write.ensures.leaves

pub returns-clause-falls : goal.returns-clause-falls
returns-clause-falls g c = falls_behind g.R.Rack c.args.store.now c.open_where.new.store c.write.new.self c.open_where.ensures.array c.write.ensures.leaves

pub returns-clause-lost : goal.returns-clause-lost
returns-clause-lost g c = lost_behind g.R.Rack c.args.store.now c.open_where.new.store c.write.new.self c.args.block c.write.result c.open_where.ensures.array c.write.ensures.lost
