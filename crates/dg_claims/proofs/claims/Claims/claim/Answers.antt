use Rattle.std.proofs.Common.{◌∙◌, None, Some, refl, sym}
use Rattle.dg_claims.proofs.OwnerLaws.{claim_is, counted, told_claim}
use Rattle.dg_claims.proofs.claims.Claims.claim.Goals as goal

pub returns-in_err-nth-clause-listed : goal.returns-in_err-nth-clause-listed
returns-in_err-nth-clause-listed c = (_, counted c.self.inside c.args.self.now c.args.fragment _ c.self.view_is c.self.invariant refl)

pub returns-in_err-nth-clause-claim : goal.returns-in_err-nth-clause-claim
returns-in_err-nth-clause-claim c = λ sources are.
    c.from_residual.ensures
    ∙ claim_is c.self.inside c.args.self.now c.args.fragment c.args.i None c.self.view_is c.self.invariant (sym c.in_err-nth.was ∙ c.nth.ensures) sources are

pub returns-clause-listed : goal.returns-clause-listed
returns-clause-listed c = (_, counted c.self.inside c.args.self.now c.args.fragment _ c.self.view_is c.self.invariant refl)

pub returns-clause-claim : goal.returns-clause-claim
returns-clause-claim c = λ sources are.
    told_claim c.in_ok-nth.field-0 c.source_of-source.result c.level.result c.source_of-source.ensures c.level.ensures
    ∙ claim_is c.self.inside c.args.self.now c.args.fragment c.args.i (Some c.in_ok-nth.field-0) c.self.view_is c.self.invariant (sym c.in_ok-nth.was ∙ c.nth.ensures) sources are
