use Rattle.std.proofs.Common.{◌∙◌, refl, sym}
use Rattle.dg_claims.specs.Kept.{table_of}
use Rattle.ufs_check.proofs.ReachLaws.{reach_data, reach_no_claim, reach_no_upper, reach_some}
use Rattle.ufs_check.proofs.reaches.reach_of.Goals as goal

pub returns-in_err-source-clause-reaches : goal.returns-in_err-source-clause-reaches
returns-in_err-source-clause-reaches c = λ v has.
    reach_no_claim c.args.g.now (table_of c.args.claims.now) v c.args.f _ c.from_residual.ensures has c.in_err-source.ensures.none

pub returns-then-level-eq0-clause-reaches : goal.returns-then-level-eq0-clause-reaches
returns-then-level-eq0-clause-reaches c = λ v has.
    reach_data c.args.g.now (table_of c.args.claims.now) v c.args.f c.in_ok-source.source _ refl has c.in_ok-source.ensures.only (sym c.level-level.ensures ∙ c.if-level-eq0.true)

pub returns-in_err-inode-clause-reaches : goal.returns-in_err-inode-clause-reaches
returns-in_err-inode-clause-reaches c = λ v has.
    reach_no_upper c.args.g.now (table_of c.args.claims.now) v c.args.f c.level-level.result c.in_ok-source.source _ c.from_residual-in_err-inode.ensures has c.in_ok-source.ensures.only
    c.level-level.ensures (c.in_err-inode.ensures.reaches v has)

pub returns-clause-reaches : goal.returns-clause-reaches
returns-clause-reaches c = λ v has.
    reach_some c.args.g.now (table_of c.args.claims.now) v c.args.f c.level-level.result c.in_ok-inode.inode c.in_ok-inode.first c.in_ok-source.source has c.in_ok-source.ensures.only
    c.level-level.ensures (c.in_ok-inode.ensures.reaches v has)
