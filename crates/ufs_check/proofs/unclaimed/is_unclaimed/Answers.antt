use Rattle.std.proofs.Common.{refl}
use Rattle.dg_claims.specs.Kept.{table_of}
use Rattle.ufs_check.proofs.UnclaimedLaws.{claimed_decides, unclaimed_decides, used_there}
use Rattle.ufs_check.proofs.unclaimed.is_unclaimed.Goals as goal

pub returns-then-number-ne0 : goal.returns-then-number-ne0
returns-then-number-ne0 c = λ v has is.
    claimed_decides c.args.g.now (table_of c.args.claims.now) v c.args.f c.claims_on-number.result has c.claims_on-number.ensures c.if-number-ne0.true

pub returns : goal.returns
returns c = λ v has is.
    unclaimed_decides c.args.g.now (table_of c.args.claims.now) v c.args.f c.claims_on-number.result _ _ _ has c.claims_on-number.ensures c.if-number-ne0.false refl
    (used_there c.args.g.now v c.args.f _ is) c.is_used_data.ensures
