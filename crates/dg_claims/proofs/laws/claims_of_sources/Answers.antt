use Rattle.dg_claims.proofs.MetadataLaws.{claim_along}
use Rattle.dg_claims.proofs.laws.claims_of_sources.Goals as goal

pub returns : goal.returns
returns c = λ one other same fragment source claim. claim_along one other same claim
