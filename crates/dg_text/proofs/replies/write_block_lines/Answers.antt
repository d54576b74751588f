use Rattle.std.proofs.Common.{get_or, refl, ◌∙◌, ◌+◌}
use Rattle.dg_text.specs.Replies.{block_line, blocks_text}
use Rattle.dg_text.specs.ToldSteps.{on_err}
use Rattle.dg_text.proofs.CallSums.{calls_counted, calls_more, calls_within}
use Rattle.dg_text.proofs.FileLines.{item_is, took_line_more, took_part_of_lines}
use Rattle.dg_text.proofs.replies.write_block_lines.Goals as goal

pub returns-in_err-write_block_line-clause-err : goal.returns-in_err-write_block_line-clause-err
returns-in_err-write_block_line-clause-err g c =
    let i = c.loop-block.block-index in
    let block = get_or c.args.blocks.now i 0 in
    on_err c.from_residual.result
    (took_part_of_lines block_line c.args.blocks.now i block (block_line block) c.loop-block-test.true (item_is c.args.blocks.now i 0 c.loop-block-test.true) refl
    _ _ _ c.loop-block.invariant.told c.in_err-write_block_line.ensures.err)

pub returns-in_err-write_block_line-clause-calls : goal.returns-in_err-write_block_line-clause-calls
returns-in_err-write_block_line-clause-calls g c =
    let i = c.loop-block.block-index in
    let block = get_or c.args.blocks.now i 0 in
    calls_counted g.K.Sink.whole g.K.Sink.calls (blocks_text c.args.blocks.now) c.args.blocks.now _ _
    (calls_within g.K.Sink.whole g.K.Sink.calls block_line (λ _. 1) c.args.blocks.now (i + 1) _ _
    (calls_more g.K.Sink.whole g.K.Sink.calls block_line (λ _. 1) c.args.blocks.now i block (block_line block) 1 _ _ _ c.loop-block-test.true
    (item_is c.args.blocks.now i 0 c.loop-block-test.true) refl refl c.loop-block.invariant.calls c.in_err-write_block_line.ensures.calls))

pub loop-block-preserved : goal.loop-block-preserved
loop-block-preserved g c =
    let i = c.loop-block.block-index in
    let block = get_or c.args.blocks.now i 0 in
    let is = item_is c.args.blocks.now i 0 c.loop-block-test.true in
    record {
      told = took_line_more block_line c.args.blocks.now i block (block_line block) c.loop-block-test.true is refl _ _ _ c.loop-block.invariant.told c.in_ok-write_block_line.ensures.ok;
      calls = calls_more g.K.Sink.whole g.K.Sink.calls block_line (λ _. 1) c.args.blocks.now i block (block_line block) 1 _ _ _ c.loop-block-test.true is refl refl
          c.loop-block.invariant.calls c.in_ok-write_block_line.ensures.calls;
      kept = c.in_ok-write_block_line.ensures.cause.kept ∙ c.loop-block.invariant.kept;
    }

pub returns-clause-calls : goal.returns-clause-calls
returns-clause-calls g c =
    calls_counted g.K.Sink.whole g.K.Sink.calls (blocks_text c.args.blocks.now) c.args.blocks.now _ _
    (calls_within g.K.Sink.whole g.K.Sink.calls block_line (λ _. 1) c.args.blocks.now c.loop-block.block-index _ _ c.loop-block.invariant.calls)
