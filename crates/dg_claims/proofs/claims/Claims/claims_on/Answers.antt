use Rattle.dg_claims.proofs.OwnerLaws.{counted}
use Rattle.dg_claims.proofs.claims.Claims.claims_on.Goals as goal

pub returns : goal.returns
returns c = counted c.self.inside c.args.self.now c.args.fragment c.count.result c.self.view_is c.self.invariant c.count.ensures
