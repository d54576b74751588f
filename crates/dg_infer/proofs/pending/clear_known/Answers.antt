use Rattle.std.proofs.Common.{◌∙◌, ◌+◌, refl}
use Rattle.dg_claims.specs.Kept.{claimed_by}
use Rattle.dg_infer.proofs.PendingLaws.{cleared_all, cleared_more}
use Rattle.dg_infer.specs.Known.{IsKnownBy}
use Rattle.dg_infer.proofs.pending.clear_known.Goals as goal

pub loop-block-preserved : goal.loop-block-preserved
loop-block-preserved c =
    let so_far = c.loop-block.invariant in
    record {
      room = c.clear_if_known.ensures.room ∙ so_far.room;
      marks = cleared_more c.args.marks.now c.loop-block.marks c.clear_if_known.new.marks (IsKnownBy c.args.geometry (claimed_by c.args.claims.now.runs)) c.loop-block.block (c.loop-block.block + 1) refl
          so_far.marks c.clear_if_known.ensures.marks;
    }

pub returns-clause-marks : goal.returns-clause-marks
returns-clause-marks c =
    cleared_all c.args.marks.now c.loop-block.marks (IsKnownBy c.args.geometry (claimed_by c.args.claims.now.runs)) c.loop-block.block c.loop-block-test.false c.loop-block.invariant.marks
