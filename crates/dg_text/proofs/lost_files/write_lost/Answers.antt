use Rattle.std.proofs.Common.{refl, length}
use Rattle.std.specs.Fmt.{decimal}
use Rattle.std.specs.List.{sum_by}
use Rattle.std.proofs.lemmas.Result.{on_ok_weaker, on_err_weaker}
use Rattle.dg_text.specs.Replies.{lost_text}
use Rattle.dg_text.specs.LineCalls.{path_calls}
use Rattle.dg_text.specs.ToldSteps.{on_err}
use Rattle.dg_text.proofs.CallSums.{calls_ended, calls_unended}
use Rattle.dg_text.proofs.FileLines.{took_ended, took_part_ended, took_part_unended}
use Rattle.dg_text.proofs.lost_files.write_lost.Goals as goal

pub returns-in_err-write_files-clause-err : goal.returns-in_err-write_files-clause-err
returns-in_err-write_files-clause-err g c =
    on_err c.from_residual.result
    (took_part_unended (lost_text c.args.files.now) c.args.word.now (decimal (length c.args.files.now)) _ _ c.in_err-write_files.ensures.err)

pub returns-clause-ok : goal.returns-clause-ok
returns-clause-ok g c =
    on_ok_weaker c.write_number.result
    (λ last. took_ended (lost_text c.args.files.now) c.args.word.now (length c.args.files.now) (length c.args.files.now) refl _ _ _ c.in_ok-write_files.ensures.ok last)
    c.write_number.ensures.ok

pub returns-clause-err : goal.returns-clause-err
returns-clause-err g c =
    on_err_weaker c.write_number.result
    (λ last. took_part_ended (lost_text c.args.files.now) c.args.word.now (length c.args.files.now) (length c.args.files.now) refl _ _ _ c.in_ok-write_files.ensures.ok last)
    c.write_number.ensures.err

pub returns-in_err-write_files-clause-calls : goal.returns-in_err-write_files-clause-calls
returns-in_err-write_files-clause-calls g c =
    calls_unended g.K.Sink.whole g.K.Sink.calls (lost_text c.args.files.now) c.args.word.now (decimal (length c.args.files.now)) (sum_by path_calls c.args.files.now) _ _ c.in_err-write_files.ensures.calls

pub returns-clause-calls : goal.returns-clause-calls
returns-clause-calls g c =
    calls_ended g.K.Sink.whole g.K.Sink.calls (lost_text c.args.files.now) c.args.word.now (sum_by path_calls c.args.files.now) (length c.args.files.now) (length c.args.files.now) _ _ _ refl c.in_ok-write_files.ensures.calls c.write_number.ensures.calls
