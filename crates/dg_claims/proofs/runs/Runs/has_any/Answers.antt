use Rattle.dg_claims.proofs.RangeLaws.{any_run}
use Rattle.dg_claims.proofs.runs.Runs.has_any.Goals as goal

pub returns : goal.returns
returns c = any_run c.self.inside.map.entries c.args.self.now c.args.first c.args.last _ c.self.view_is c.has_any_in.ensures
