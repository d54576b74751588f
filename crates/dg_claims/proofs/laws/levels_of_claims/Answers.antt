use Rattle.dg_claims.proofs.MetadataLaws.{level_low}
use Rattle.dg_claims.proofs.laws.levels_of_claims.Goals as goal

pub returns : goal.returns
returns c = λ g v fragment source claim. level_low g v claim
