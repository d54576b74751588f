use Rattle.std.proofs.Common.{◌∙◌, sym}
use Rattle.dg_claims.specs.Kept.{table_of}
use Rattle.ufs_audit.proofs.HolderLaws.{marks_more}
use Rattle.ufs_audit.specs.Holders.{HasMarkedHolder}
use Rattle.ufs_audit.proofs.holders.held_at.Goals as goal

pub loop-f-preserved : goal.loop-f-preserved
loop-f-preserved c =
    marks_more (HasMarkedHolder (table_of c.args.claims.now) c.args.directories.now c.args.above.now c.args.level) c.loop-f.f c.loop-f.marks.items _ c.is_held.result c.push.result
    (sym c.is_err.ensures.value ∙ c.if-is_err.false) c.push.ensures.items c.loop-f.invariant c.is_held.ensures
