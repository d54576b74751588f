use Rattle.dg_claims.specs.Kept.{table_of}
use Rattle.ufs_audit.proofs.HolderLaws.{indirect_decides}
use Rattle.ufs_audit.proofs.losses.is_indirect.Goals as goal

pub returns : goal.returns
returns c =
    indirect_decides (table_of c.args.claims.now) c.args.f _ _ _ c.claims_inside.ensures.levels c.has_level.ensures c.has_level-2.ensures c.has_level-3.ensures c.if-has_level.false c.if-has_level-2.false
