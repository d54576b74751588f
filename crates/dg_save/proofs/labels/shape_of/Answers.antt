use Rattle.dg_save.proofs.LabelLemmas.{numbers_of_label, shape_from}
use Rattle.dg_save.proofs.labels.shape_of.Goals as goal

pub returns-clause-exact : goal.returns-clause-exact
returns-clause-exact c label is says =
    shape_from label c.args.buf.now _ _ _ _ _ (numbers_of_label label c.args.buf.now is says) is.shape
    c.u32_at-l.ensures c.u32_at-n.ensures c.u32_at-b.ensures c.u32_at-k.ensures c.u32_at-m.ensures
    c.check.result c.check.ensures.limits.1 c.check.ensures.numbers
