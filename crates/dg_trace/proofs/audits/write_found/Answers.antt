use Rattle.std.proofs.Common.{ap, sym}
use Rattle.dg_trace.specs.Audits.{audit_text}
use Rattle.dg_trace.proofs.LineSteps.{part_as}
use Rattle.dg_trace.proofs.audits.write_found.Goals as goal

pub returns-in-None-clause-err : goal.returns-in-None-clause-err
returns-in-None-clause-err g c = part_as c.write_all.result _ (audit_text c.args.found.now) _ _ (ap audit_text (sym c.in-None.is)) c.write_all.ensures.err
