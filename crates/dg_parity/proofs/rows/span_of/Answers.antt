use Rattle.dg_parity.proofs.RowLemmas.{span-is}
use Rattle.dg_parity.proofs.rows.span_of.Goals as goal

pub returns : goal.returns
returns c =
    span-is c.args.n c.args.j c.args.at c.args.size c.args.window c.skip.result c.cut.result c.requires.least c.requires.disk c.requires.some c.requires.window
    c.skip.ensures.parity c.skip.ensures.most c.skip.ensures.before c.skip.ensures.behind
    c.cut.ensures.parity c.cut.ensures.most c.cut.ensures.before c.cut.ensures.behind
