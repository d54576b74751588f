use Rattle.dg_claims.proofs.LevelLaws.{wanted_at}
use Rattle.dg_claims.proofs.claims.Claims.has_level.Goals as goal

pub returns : goal.returns
returns c = wanted_at c.self.inside c.args.self.now c.args.fragment c.args.level c.has_level.result c.self.view_is c.self.invariant c.has_level.ensures
