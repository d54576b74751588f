use Rattle.std.proofs.Common.{refl, sym}
use Rattle.dg_io.specs.ViewLaws.{keeps_both}
use Rattle.ufs_model.specs.Metadata.{IsStructure}
use Rattle.ufs_pointer.specs.KindLaws.{loses_along, only_both, only_of}
use Rattle.ufs_audit.proofs.AuditLaws.{none_along, none_never, refused_findings, some_along, structure_then, super_structure}
use Rattle.ufs_audit.proofs.audits.find_all.Goals as goal

pub returns-in-None-clause-gone : goal.returns-in-None-clause-gone
returns-in-None-clause-gone g c =
    let l = g.V.View.size c.args.view.now in
    let n = g.V.View.count c.args.view.now in
    loses_along {kind = IsStructure l n} refl (λ b h. h) (λ is. is) (λ told v stands. (stands, λ block needs. super_structure l n v block needs)) c.in-None.ensures.lost

pub returns-in-None-clause-fetched : goal.returns-in-None-clause-fetched
returns-in-None-clause-fetched g c =
    let l = g.V.View.size c.args.view.now in
    let n = g.V.View.count c.args.view.now in
    only_of (IsStructure l n) (λ v stands block needs. super_structure l n v block needs) c.read_geometry.ensures.fetched

pub returns-in-Some-Err-clause-fetched : goal.returns-in-Some-Err-clause-fetched
returns-in-Some-Err-clause-fetched g c =
    let l = g.V.View.size c.args.view.now in
    let n = g.V.View.count c.args.view.now in
    only_of (IsStructure l n) (λ v stands block needs. super_structure l n v block needs) c.read_geometry.ensures.fetched

pub returns-in-Some-Err-clause-found : goal.returns-in-Some-Err-clause-found
returns-in-Some-Err-clause-found g c =
    let l = g.V.View.size c.args.view.now in
    let n = g.V.View.count c.args.view.now in
    let reads = rw c.in-Some-Err.field-0-is at c.in-Some-Err.ensures.rule in
    some_along c.refused.result _ _ (λ findings refusal told v stands.
    refused_findings l n v c.in-Some-Err.bad _ _ _ (sym ((reads.rule told v stands).answer)) refusal.bad refusal.unnamed refusal.unclaimed) c.refused.ensures.found

pub returns-in-Some-Err-clause-gone : goal.returns-in-Some-Err-clause-gone
returns-in-Some-Err-clause-gone g c = none_never c.refused.result _ c.refused.ensures.there

pub returns-in-Some-Ok-clause-found : goal.returns-in-Some-Ok-clause-found
returns-in-Some-Ok-clause-found g c =
    let first = c.read_geometry.ensures.keeps in
    let second = c.audit_volume.ensures.keeps in
    let reads = rw c.in-Some-Ok.field-0-is at c.in-Some-Ok.ensures.rule in
    some_along c.audit_volume.result _ _ (λ findings found told v stands.
    let is = sym ((reads.rule (second.told told) v stands).answer) in
    rw (← first.bytes, ← first.blocks) (found told v (first.stands v stands, rw (first.bytes, first.blocks) is))) c.audit_volume.ensures.found

pub returns-in-Some-Ok-clause-gone : goal.returns-in-Some-Ok-clause-gone
returns-in-Some-Ok-clause-gone g c =
    let l = g.V.View.size c.args.view.now in
    let n = g.V.View.count c.args.view.now in
    let first = c.read_geometry.ensures.keeps in
    let second = c.audit_volume.ensures.keeps in
    let reads = rw c.in-Some-Ok.field-0-is at c.in-Some-Ok.ensures.rule in
    none_along c.audit_volume.result _ _ (λ gone.
    loses_along {kind = IsStructure l n} first.blocks (λ b h. h) (λ is. is)
    (λ told v stands. ((first.stands v stands, rw (first.bytes, first.blocks) (sym ((reads.rule (second.told told) v stands).answer))), λ block is. structure_then l n v block first.bytes first.blocks is)) gone)
    c.audit_volume.ensures.gone

pub returns-in-Some-Ok-clause-fetched : goal.returns-in-Some-Ok-clause-fetched
returns-in-Some-Ok-clause-fetched g c =
    let l = g.V.View.size c.args.view.now in
    let n = g.V.View.count c.args.view.now in
    let first = c.read_geometry.ensures.keeps in
    let second = c.audit_volume.ensures.keeps in
    let reads = rw c.in-Some-Ok.field-0-is at c.in-Some-Ok.ensures.rule in
    only_both {kind = IsStructure l n} g.met.V.View.fetched_both second.told
    (λ told v stands. ((first.stands v stands, rw (first.bytes, first.blocks) (sym ((reads.rule (second.told told) v stands).answer))), λ block is. structure_then l n v block first.bytes first.blocks is))
    (only_of (IsStructure l n) (λ v stands block needs. super_structure l n v block needs) c.read_geometry.ensures.fetched)
    c.audit_volume.ensures.fetched

pub returns-in-Some-Ok-clause-keeps : goal.returns-in-Some-Ok-clause-keeps
returns-in-Some-Ok-clause-keeps g c =
    keeps_both g.met.V.View.further c.args.view.now c.read_geometry.new.view c.audit_volume.new.view c.read_geometry.ensures.keeps c.audit_volume.ensures.keeps
