use Rattle.dg_claims.proofs.OwnerLaws.{claim_source, no_claim, one_claim}
use Rattle.dg_claims.proofs.claims.Claims.only_claim.Goals as goal

pub returns-in-Some-clause-only : goal.returns-in-Some-clause-only
returns-in-Some-clause-only c =
    one_claim c.self.inside c.args.self.now c.args.fragment c.in-Some.place c.source_of.result c.self.view_is c.self.invariant c.in-Some.ensures.one c.source_of.ensures

pub returns-in-Some-clause-source : goal.returns-in-Some-clause-source
returns-in-Some-clause-source c =
    claim_source c.self.inside c.args.self.now c.args.fragment c.in-Some.place c.source_of.result c.self.view_is c.self.invariant c.in-Some.ensures.one c.source_of.ensures

pub returns-in-None-clause-none : goal.returns-in-None-clause-none
returns-in-None-clause-none c = no_claim c.self.inside c.args.self.now c.args.fragment c.self.view_is c.self.invariant c.in-None.ensures.none
