use Rattle.dg_claims.proofs.OwnerLaws.{if_none, owner_none, owner_one_level}
use Rattle.dg_claims.specs.Kept.{table_of}
use Rattle.dg_claims.specs.Tables.{TableClaims}
use Rattle.dg_claims.proofs.claims.Claims.owner.Goals as goal

pub returns-in_err-source-clause-none : goal.returns-in_err-source-clause-none
returns-in_err-source-clause-none c = if_none c.from_residual.result (owner_none (TableClaims (table_of c.args.self.now)) c.args.fragment c.in_err-source.ensures.none)

pub returns-in_err-inode-clause-none : goal.returns-in_err-inode-clause-none
returns-in_err-inode-clause-none c =
    if_none c.from_residual-in_err-inode.result
    (owner_one_level (TableClaims (table_of c.args.self.now)) c.args.fragment c.level-level.result c.in_ok-source.source c.in_ok-source.ensures.only c.level-level.ensures c.in_err-inode.ensures.none)
