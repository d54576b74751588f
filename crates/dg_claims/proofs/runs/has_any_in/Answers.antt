use Rattle.dg_claims.proofs.RangeLaws.{any_between}
use Rattle.dg_claims.proofs.runs.has_any_in.Goals as goal

pub returns : goal.returns
returns c =
    any_between c.args.map.now c.args.first c.args.last _ _ c.range.result c.next.new.self _ c.next.result _ c.new.ensures.start c.new.ensures.end (c.range.ensures.in_range c.new.ensures.exhausted)
    c.next.ensures.steps c.is_some.ensures
