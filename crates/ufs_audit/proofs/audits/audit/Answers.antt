use Rattle.dg_io.specs.ViewLaws.{keeps_both}
use Rattle.ufs_audit.proofs.AuditLaws.{none_along, some_along, structure_then}
use Rattle.ufs_audit.proofs.LossLaws.{some_always}
use Rattle.ufs_model.specs.Metadata.{IsStructure}
use Rattle.ufs_pointer.specs.KindLaws.{loses_along, only_both}
use Rattle.ufs_audit.proofs.audits.audit.Goals as goal

pub returns-clause-keeps : goal.returns-clause-keeps
returns-clause-keeps g c =
    keeps_both g.met.V.View.further c.args.view.now c.structure_has_gone.new.view c.find_all.new.view c.structure_has_gone.ensures.keeps c.find_all.ensures.keeps

pub returns-clause-found : goal.returns-clause-found
returns-clause-found g c =
    let first = c.structure_has_gone.ensures.keeps in
    some_along c.find_all.result _ _ (λ findings found told v stands. rw (← first.bytes, ← first.blocks) (found told v (first.stands v stands))) c.find_all.ensures.found

pub returns-clause-there : goal.returns-clause-there
returns-clause-there g c =
    let second = c.find_all.ensures.keeps in
    some_always c.find_all.result _ (λ told v stands b low of. c.in_ok-gone.ensures.there c.if-gone.false (second.told told) v stands b low of)

pub returns-clause-gone : goal.returns-clause-gone
returns-clause-gone g c =
    let l = g.V.View.size c.args.view.now in
    let n = g.V.View.count c.args.view.now in
    let first = c.structure_has_gone.ensures.keeps in
    none_along c.find_all.result _ _ (λ gone.
    loses_along {kind = IsStructure l n} first.blocks (λ b h. h) (λ told. told)
    (λ told v stands. (first.stands v stands, λ block is. structure_then l n v block first.bytes first.blocks is)) gone)
    c.find_all.ensures.gone

pub returns-clause-fetched : goal.returns-clause-fetched
returns-clause-fetched g c =
    let l = g.V.View.size c.args.view.now in
    let n = g.V.View.count c.args.view.now in
    let first = c.structure_has_gone.ensures.keeps in
    let second = c.find_all.ensures.keeps in
    only_both {kind = IsStructure l n} g.met.V.View.fetched_both second.told
    (λ told v stands. (first.stands v stands, λ block is. structure_then l n v block first.bytes first.blocks is)) c.structure_has_gone.ensures.fetched c.find_all.ensures.fetched
