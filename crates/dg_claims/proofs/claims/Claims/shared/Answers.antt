use Rattle.dg_claims.proofs.SharedLaws.{few_at_first}
use Rattle.dg_claims.specs.Kept.{table_of}
use Rattle.dg_claims.proofs.claims.Claims.shared.Goals as goal

pub returns-clause-none : goal.returns-clause-none
returns-clause-none c = λ leveled. c.shared_below.ensures.none leveled (few_at_first (table_of c.args.self.now) c.args.fragment)
