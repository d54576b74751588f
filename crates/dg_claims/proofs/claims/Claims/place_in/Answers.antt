use Rattle.std.proofs.Common.{sym}
use Rattle.dg_claims.proofs.OwnerLaws.{if_none}
use Rattle.dg_claims.proofs.SourceLaws.{no_source}
use Rattle.dg_claims.proofs.claims.Claims.place_in.Goals as goal

pub returns-in_err-known-clause-none : goal.returns-in_err-known-clause-none
returns-in_err-known-clause-none c =
    if_none c.from_residual.result (no_source c.args.self.now c.args.source c.known.ensures.sources (sym c.in_err-known.ensures.value))
