use Rattle.std.proofs.Common.{refl}
use Rattle.ufs_model.specs.Claims.{level_of}
use Rattle.dg_claims.proofs.LevelLaws.{claimed_inside, claimed_level, claimed_source}
use Rattle.dg_claims.proofs.claims.Claims.claims_inside.Goals as goal

pub returns-clause-inside : goal.returns-clause-inside
returns-clause-inside c = λ fragment source has. claimed_inside c.self.inside c.args.self.now fragment (level_of source) c.self.view_is c.self.invariant (record { source = source; claim = has; is = refl })

pub returns-clause-levels : goal.returns-clause-levels
returns-clause-levels c = λ fragment source has. claimed_level c.self.inside c.args.self.now fragment source c.self.view_is c.self.invariant has

pub returns-clause-sources : goal.returns-clause-sources
returns-clause-sources c = λ fragment source has. claimed_source c.self.inside c.args.self.now fragment source c.self.view_is c.self.invariant has
