use Rattle.std.proofs.Common.{Bool, sym, subst}
use Rattle.dg_volume.proofs.SealSteps.{where_none}
use Rattle.dg_volume.specs.Seals.{OpensWhere}
use Rattle.dg_volume.proofs.seals.open_where.Goals as goal

pub returns-then-not-writes : goal.returns-then-not-writes
returns-then-not-writes g c =
    subst (λ (w : Bool). OpensWhere g.R.Rack w c.args.store.now c.args.store.now c.args.label.now c.args.label.now) (sym c.if-not-writes.true)
    (where_none g.R.Rack c.args.store.now c.args.label.now c.requires.sound)
