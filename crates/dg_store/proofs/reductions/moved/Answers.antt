use Rattle.dg_store.proofs.LeftRows.{moved_is}
use Rattle.dg_store.proofs.reductions.moved.Goals as goal

pub returns : goal.returns
returns c =
    moved_is c.args.boundary.now c.opened.result c.args.number c.args.shape.now.l _ c.has_good.result c.has_good-2.result c.opened.ensures.pair c.has_good.ensures c.has_good-2.ensures
    c.opened.ensures.first c.opened.ensures.second
