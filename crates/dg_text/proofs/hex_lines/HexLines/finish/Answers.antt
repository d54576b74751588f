use Rattle.std.proofs.Common.{◌+◌, ◌++◌, length, length-append, arith}
use Rattle.std.proofs.lemmas.Result.{on_ok_weaker, on_err_weaker}
use Rattle.dg_text.specs.Replies.{file_text}
use Rattle.dg_text.specs.HexLines.{waiting, rest_lines, last_line}
use Rattle.dg_text.specs.ToldSteps.{on_err, took_both, took_part_of_more, took_part_after}
use Rattle.dg_text.specs.SinkCallSteps.{leaves_both, leaves_more}
use Rattle.dg_text.proofs.hex_lines.HexLines.finish.Goals as goal

pub returns-in_err-flush-clause-err : goal.returns-in_err-flush-clause-err
returns-in_err-flush-clause-err g c =
    on_err c.from_residual.result
    (took_part_of_more (file_text (rest_lines (waiting c.args.self.now))) (last_line c.args.word.now c.args.n) _ _ c.in_err-flush.ensures.err)

pub returns-clause-ok : goal.returns-clause-ok
returns-clause-ok g c =
    on_ok_weaker c.write_number.result
    (λ last. took_both (file_text (rest_lines (waiting c.args.self.now))) (last_line c.args.word.now c.args.n) _ _ _ c.in_ok-flush.ensures.ok last)
    c.write_number.ensures.ok

pub returns-clause-err : goal.returns-clause-err
returns-clause-err g c =
    on_err_weaker c.write_number.result
    (λ last. took_part_after (file_text (rest_lines (waiting c.args.self.now))) (last_line c.args.word.now c.args.n) _ _ _ c.in_ok-flush.ensures.ok last)
    c.write_number.ensures.err

pub returns-in_err-flush-clause-calls : goal.returns-in_err-flush-clause-calls
returns-in_err-flush-clause-calls g c =
    let lines = rest_lines (waiting c.args.self.now) in
    let last = last_line c.args.word.now c.args.n in
    leaves_more g.K.Sink.whole g.K.Sink.calls (length lines) (length (file_text lines)) (length lines + 1) (length (file_text lines ++ last)) _ _
    (omega arith) (omega (arith, length-append (file_text lines) last)) c.in_err-flush.ensures.calls

pub returns-clause-calls : goal.returns-clause-calls
returns-clause-calls g c =
    let lines = rest_lines (waiting c.args.self.now) in
    let last = last_line c.args.word.now c.args.n in
    leaves_more g.K.Sink.whole g.K.Sink.calls _ _ (length lines + 1) (length (file_text lines ++ last)) _ _
    (omega arith) (omega (arith, length-append (file_text lines) last))
    (leaves_both g.K.Sink.whole g.K.Sink.calls (length lines) (length (file_text lines)) 1 (length last) _ _ _ c.in_ok-flush.ensures.calls c.write_number.ensures.calls)
