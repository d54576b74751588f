use Rattle.std.proofs.Common.{subst, sym}
use Rattle.std.specs.Prelude.{Ok}
use Rattle.dg_text.specs.Lines.{AreBytes}
use Rattle.dg_trace.proofs.AuditSteps.{found_end, part_end}
use Rattle.dg_trace.specs.Audits.{EndsAudit}
use Rattle.dg_trace.specs.declared.audits.AuditEnd.{AuditEnd}
use Rattle.dg_trace.proofs.audits.audit_bytes.Goals as goal

pub returns-in_default-clause-bytes : goal.returns-in_default-clause-bytes
returns-in_default-clause-bytes g c = subst AreBytes c.deref.ensures.value c.are_bytes.ensures

pub returns-in-Ok-write_found-clause-bytes : goal.returns-in-Ok-write_found-clause-bytes
returns-in-Ok-write_found-clause-bytes g c = subst AreBytes c.deref.ensures.value c.are_bytes.ensures

pub returns-clause-bytes : goal.returns-clause-bytes
returns-clause-bytes g c = subst AreBytes c.deref.ensures.value c.are_bytes.ensures

pub returns-in-Ok-write_found-clause-ends : goal.returns-in-Ok-write_found-clause-ends
returns-in-Ok-write_found-clause-ends g c =
    subst (λ (end : AuditEnd). EndsAudit c.args.image.items (g.K.Sink.taken c.args.sink.now) (g.K.Sink.taken c.write_found.new.sink) (Ok end)) (sym c.end_of.ensures)
    (found_end c.args.image.items _ _ c.in-Ok.found c.in-Ok.ensures c.in-Ok-write_found.ensures.ok)

pub returns-clause-ends : goal.returns-clause-ends
returns-clause-ends g c = part_end c.args.image.items _ _ c.in-Ok.found c.in-Ok.ensures c.in-Err.ensures.err
