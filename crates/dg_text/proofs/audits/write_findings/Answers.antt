use Rattle.std.proofs.Common.{◌<◌, ℕ, List, get_or, length, refl, take, ◌∙◌, ◌+◌}
use Rattle.std.specs.Prelude.{Option}
use Rattle.dg_io.specs.Told.{Told, Took, TookPart}
use Rattle.dg_model.specs.declared.findings.Finding.{Finding}
use Rattle.dg_text.specs.Replies.{finding_line, findings_text}
use Rattle.dg_text.specs.ToldSteps.{on_err}
use Rattle.dg_text.proofs.CallSums.{calls_counted, calls_more, calls_within}
use Rattle.dg_text.proofs.FileLines.{item_is, took_line_more, took_part_of_lines}
use Rattle.dg_text.proofs.audits.write_findings.Goals as goal

-- the lines before one, and a part of it
part_of_findings : (findings : List Finding) (i : ℕ) (past : Finding) → i < length findings → (a b c : Option (List ℕ))
    → Told (Took (findings_text (take i findings))) a b → Told (TookPart (finding_line (get_or findings i past))) b c → Told (TookPart (findings_text findings)) a c
part_of_findings findings i past low a b c before part =
    took_part_of_lines finding_line findings i (get_or findings i past) (finding_line (get_or findings i past)) low (item_is findings i past low) refl a b c before part

pub returns-in_err-write_finding-clause-err : goal.returns-in_err-write_finding-clause-err
returns-in_err-write_finding-clause-err g c =
    on_err c.from_residual.result
    (part_of_findings c.args.findings.now c.loop-finding.finding-index _ c.loop-finding-test.true _ _ _ c.loop-finding.invariant.told c.in_err-write_finding.ensures.err)

pub returns-in_err-write_finding-clause-calls : goal.returns-in_err-write_finding-clause-calls
returns-in_err-write_finding-clause-calls g c =
    let findings = c.args.findings.now in
    let i = c.loop-finding.finding-index in
    calls_counted g.K.Sink.whole g.K.Sink.calls (findings_text findings) findings _ _
    (calls_within g.K.Sink.whole g.K.Sink.calls finding_line (λ _. 1) findings (i + 1) _ _
    (calls_more g.K.Sink.whole g.K.Sink.calls finding_line (λ _. 1) findings i (get_or findings i _) (finding_line (get_or findings i _)) 1 _ _ _ c.loop-finding-test.true
    (item_is findings i _ c.loop-finding-test.true) refl refl c.loop-finding.invariant.calls c.in_err-write_finding.ensures.calls))

pub loop-finding-preserved : goal.loop-finding-preserved
loop-finding-preserved g c =
    let findings = c.args.findings.now in
    let i = c.loop-finding.finding-index in
    record {
      told = took_line_more finding_line findings i (get_or findings i _) (finding_line (get_or findings i _)) c.loop-finding-test.true (item_is findings i _ c.loop-finding-test.true) refl
          _ _ _ c.loop-finding.invariant.told c.in_ok-write_finding.ensures.ok;
      calls = calls_more g.K.Sink.whole g.K.Sink.calls finding_line (λ _. 1) findings i (get_or findings i _) (finding_line (get_or findings i _)) 1 _ _ _ c.loop-finding-test.true
          (item_is findings i _ c.loop-finding-test.true) refl refl c.loop-finding.invariant.calls c.in_ok-write_finding.ensures.calls;
      kept = c.in_ok-write_finding.ensures.cause.kept ∙ c.loop-finding.invariant.kept;
    }

pub returns-clause-calls : goal.returns-clause-calls
returns-clause-calls g c =
    calls_counted g.K.Sink.whole g.K.Sink.calls (findings_text c.args.findings.now) c.args.findings.now _ _
    (calls_within g.K.Sink.whole g.K.Sink.calls finding_line (λ _. 1) c.args.findings.now c.loop-finding.finding-index _ _ c.loop-finding.invariant.calls)
