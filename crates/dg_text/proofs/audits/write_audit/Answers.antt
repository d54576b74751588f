use Rattle.std.proofs.Common.{refl, length}
use Rattle.std.specs.Prelude.{codes}
use Rattle.std.specs.Fmt.{decimal}
use Rattle.std.proofs.lemmas.Result.{on_ok_weaker, on_err_weaker}
use Rattle.dg_io.specs.SinkLines.{lines_both, lines_of_text}
use Rattle.dg_text.specs.LineWeights.{may_each}
use Rattle.dg_text.specs.Replies.{finding_line, findings_text}
use Rattle.dg_text.specs.ToldSteps.{on_err}
use Rattle.dg_text.proofs.CallSums.{calls_ended, calls_unended}
use Rattle.dg_text.proofs.FileLines.{took_ended, took_part_ended, took_part_unended}
use Rattle.dg_text.proofs.ReplyWeights.{finding_feed}
use Rattle.dg_text.proofs.audits.write_audit.Goals as goal

pub returns-in_err-write_findings-clause-err : goal.returns-in_err-write_findings-clause-err
returns-in_err-write_findings-clause-err g c =
    on_err c.from_residual.result
    (took_part_unended (findings_text c.args.findings.now) (codes "end ") (decimal (length c.args.findings.now)) _ _ c.in_err-write_findings.ensures.err)

pub returns-clause-ok : goal.returns-clause-ok
returns-clause-ok g c =
    on_ok_weaker c.write_number.result
    (λ last. took_ended (findings_text c.args.findings.now) (codes "end ") (length c.args.findings.now) (length c.args.findings.now) refl _ _ _ c.in_ok-write_findings.ensures.ok last)
    c.write_number.ensures.ok

pub returns-clause-err : goal.returns-clause-err
returns-clause-err g c =
    on_err_weaker c.write_number.result
    (λ last. took_part_ended (findings_text c.args.findings.now) (codes "end ") (length c.args.findings.now) (length c.args.findings.now) refl _ _ _ c.in_ok-write_findings.ensures.ok last)
    c.write_number.ensures.err

pub returns-in_err-write_findings-clause-calls : goal.returns-in_err-write_findings-clause-calls
returns-in_err-write_findings-clause-calls g c =
    calls_unended g.K.Sink.whole g.K.Sink.calls (findings_text c.args.findings.now) (codes "end ") (decimal (length c.args.findings.now)) (length c.args.findings.now) _ _ c.in_err-write_findings.ensures.calls

pub returns-clause-calls : goal.returns-clause-calls
returns-clause-calls g c =
    calls_ended g.K.Sink.whole g.K.Sink.calls (findings_text c.args.findings.now) (codes "end ") (length c.args.findings.now) (length c.args.findings.now) (length c.args.findings.now) _ _ _ refl c.in_ok-write_findings.ensures.calls c.write_number.ensures.calls

pub returns-clause-lines : goal.returns-clause-lines
returns-clause-lines g c =
    let findings = c.args.findings.now in
    let first =
    lines_of_text 255 g.K.Sink.whole g.K.Sink.calls g.K.Sink.taken (length findings) (length (findings_text findings)) (findings_text findings) _ _
    (may_each finding_line findings finding_feed) c.in_ok-write_findings.ensures.calls c.in_ok-write_findings.ensures.ok in
    on_ok_weaker c.write_number.result (λ last. lines_both 255 g.K.Sink.whole g.K.Sink.calls g.K.Sink.taken _ _ _ first last) c.write_number.ensures.lines
