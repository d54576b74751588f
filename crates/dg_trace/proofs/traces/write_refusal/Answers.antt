use Rattle.std.proofs.Common.{ap, sym}
use Rattle.dg_trace.specs.Answers.{refusal_text}
use Rattle.dg_trace.proofs.LineSteps.{ok_as, part_as}
use Rattle.dg_trace.proofs.traces.write_refusal.Goals as goal

pub returns-in-Length-clause-ok : goal.returns-in-Length-clause-ok
returns-in-Length-clause-ok g c = ok_as c.write_all.result _ (refusal_text c.args.refusal) _ _ (ap refusal_text (sym c.in-Length.is)) c.write_all.ensures.ok

pub returns-in-Length-clause-err : goal.returns-in-Length-clause-err
returns-in-Length-clause-err g c = part_as c.write_all.result _ (refusal_text c.args.refusal) _ _ (ap refusal_text (sym c.in-Length.is)) c.write_all.ensures.err

pub returns-in-Limits-clause-ok : goal.returns-in-Limits-clause-ok
returns-in-Limits-clause-ok g c = ok_as c.write_all-in-Limits.result _ (refusal_text c.args.refusal) _ _ (ap refusal_text (sym c.in-Limits.is)) c.write_all-in-Limits.ensures.ok

pub returns-in-Limits-clause-err : goal.returns-in-Limits-clause-err
returns-in-Limits-clause-err g c = part_as c.write_all-in-Limits.result _ (refusal_text c.args.refusal) _ _ (ap refusal_text (sym c.in-Limits.is)) c.write_all-in-Limits.ensures.err
