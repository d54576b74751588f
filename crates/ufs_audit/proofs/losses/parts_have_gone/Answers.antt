use Rattle.dg_claims.specs.Kept.{table_of}
use Rattle.ufs_audit.proofs.LossLaws.{tells_last}
use Rattle.ufs_audit.specs.Losses.{IsClaimPart, IsGroupBlock, IsInodeBlock}
use Rattle.ufs_audit.proofs.losses.parts_have_gone.Goals as goal

pub returns : goal.returns
returns g c =
    tells_last g.V.View c.args.view.now (IsGroupBlock c.args.g.now) (IsInodeBlock c.args.g.now) (IsClaimPart (table_of c.args.claims.now) c.args.marks.now) c.claims_have_gone.result
    c.if-groups_have_gone.ensures c.if-inodes_have_gone.ensures c.claims_have_gone.ensures
