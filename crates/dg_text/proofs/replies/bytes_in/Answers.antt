use Rattle.std.proofs.Common.{◌+◌, ap, arith, length}
use Rattle.dg_text.proofs.FileLines.{concat_more, concat_within}
use Rattle.dg_text.proofs.replies.bytes_in.Goals as goal

pub overflow_cast-count : goal.overflow_cast-count
overflow_cast-count c =
    let more = concat_more c.args.lines.now c.loop-line.line-index c.line-item.result c.loop-line-test.true c.line-item.is in
    omega (arith, more, concat_within c.args.lines.now (c.loop-line.line-index + 1), ap length c.as_slice.ensures)

pub overflow_add-count : goal.overflow_add-count
overflow_add-count c =
    let more = concat_more c.args.lines.now c.loop-line.line-index c.line-item.result c.loop-line-test.true c.line-item.is in
    omega (arith, more, concat_within c.args.lines.now (c.loop-line.line-index + 1), ap length c.as_slice.ensures)

pub loop-line-preserved : goal.loop-line-preserved
loop-line-preserved c =
    let more = concat_more c.args.lines.now c.loop-line.line-index c.line-item.result c.loop-line-test.true c.line-item.is in
    omega (arith, more, ap length c.as_slice.ensures)
