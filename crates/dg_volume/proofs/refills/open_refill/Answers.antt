use Rattle.dg_volume.proofs.SealSteps.{opens_filling, opens_gone, opens_none}
use Rattle.dg_volume.proofs.refills.open_refill.Goals as goal

pub returns-then-not-is_filling : goal.returns-then-not-is_filling
returns-then-not-is_filling g c = λ line.
    opens_none g.R.Rack line c.args.store.now c.args.label.now c.args.boundary c.args.limit c.requires.sound (c.is_filling.ensures.none c.if-not-is_filling.true)

pub returns-then-is_filling : goal.returns-then-is_filling
returns-then-is_filling g c = λ line.
    opens_filling g.R.Rack line c.args.store.now c.open_where.new.store c.args.label.now c.open_where.new.label c.args.boundary c.args.limit c.requires.sound
    (c.is_filling.ensures.some c.if-not-is_filling.false) c.open_where.ensures (c.is_filling-2.ensures.some c.if-is_filling.true)

pub returns : goal.returns
returns g c = λ line.
    opens_gone g.R.Rack line c.args.store.now c.open_where.new.store c.args.label.now c.open_where.new.label c.args.boundary c.args.limit c.fell.result c.requires.sound
    (c.is_filling.ensures.some c.if-not-is_filling.false) c.open_where.ensures (c.is_filling-2.ensures.none c.if-is_filling.false) c.fell.ensures.lost c.fell.ensures.live
