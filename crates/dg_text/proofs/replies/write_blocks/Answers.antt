use Rattle.std.proofs.Common.{refl, length}
use Rattle.std.specs.Prelude.{codes}
use Rattle.std.specs.Fmt.{decimal}
use Rattle.std.proofs.lemmas.Result.{on_ok_weaker, on_err_weaker}
use Rattle.dg_text.specs.Replies.{blocks_text}
use Rattle.dg_text.specs.ToldSteps.{on_err}
use Rattle.dg_text.proofs.CallSums.{calls_ended, calls_unended}
use Rattle.dg_text.proofs.FileLines.{took_ended, took_part_ended, took_part_unended}
use Rattle.dg_text.proofs.replies.write_blocks.Goals as goal

pub returns-in_err-write_block_lines-clause-err : goal.returns-in_err-write_block_lines-clause-err
returns-in_err-write_block_lines-clause-err g c =
    on_err c.from_residual.result
    (took_part_unended (blocks_text c.args.blocks.now) (codes "end ") (decimal (length c.args.blocks.now)) _ _ c.in_err-write_block_lines.ensures.err)

pub returns-clause-ok : goal.returns-clause-ok
returns-clause-ok g c =
    on_ok_weaker c.write_number.result
    (λ last. took_ended (blocks_text c.args.blocks.now) (codes "end ") (length c.args.blocks.now) (length c.args.blocks.now) refl _ _ _ c.in_ok-write_block_lines.ensures.ok last)
    c.write_number.ensures.ok

pub returns-clause-err : goal.returns-clause-err
returns-clause-err g c =
    on_err_weaker c.write_number.result
    (λ last. took_part_ended (blocks_text c.args.blocks.now) (codes "end ") (length c.args.blocks.now) (length c.args.blocks.now) refl _ _ _ c.in_ok-write_block_lines.ensures.ok last)
    c.write_number.ensures.err

pub returns-in_err-write_block_lines-clause-calls : goal.returns-in_err-write_block_lines-clause-calls
returns-in_err-write_block_lines-clause-calls g c =
    calls_unended g.K.Sink.whole g.K.Sink.calls (blocks_text c.args.blocks.now) (codes "end ") (decimal (length c.args.blocks.now)) (length c.args.blocks.now) _ _ c.in_err-write_block_lines.ensures.calls

pub returns-clause-calls : goal.returns-clause-calls
returns-clause-calls g c =
    calls_ended g.K.Sink.whole g.K.Sink.calls (blocks_text c.args.blocks.now) (codes "end ") (length c.args.blocks.now) (length c.args.blocks.now) (length c.args.blocks.now) _ _ _ refl c.in_ok-write_block_lines.ensures.calls c.write_number.ensures.calls
