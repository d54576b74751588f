use Rattle.dg_trace.proofs.AuditSteps.{audit_read}
use Rattle.dg_trace.specs.Calls.{facts_of}
use Rattle.dg_trace.proofs.audits.audit_image.Goals as goal

pub returns-clause-ends : goal.returns-clause-ends
returns-clause-ends g c =
    audit_read (facts_of g.S.Source g.K.Sink c.args.source.now c.read_image.new.source c.args.sink.now c.audit_bytes.new.sink) c.in_ok-image.image.items c.audit_bytes.result
    c.audit_bytes.ensures.bytes c.in_ok-image.ensures.image c.audit_bytes.ensures.ends
