use Rattle.std.proofs.Common.{◌≡◌, ◌∙◌, Some, true, false, refl, sym, ap}
use Rattle.dg_io.specs.ViewLaws.{keeps_both}
use Rattle.ufs_model.specs.Blocks.{Volume}
use Rattle.ufs_model.specs.Metadata.{IsMetadata, IsStructure}
use Rattle.ufs_model.specs.Metadata.IsStructure.{of_metadata}
use Rattle.dg_claims.specs.Kept.{table_of}
use Rattle.dg_claims.specs.Tables.{accepted}
use Rattle.ufs_pointer.specs.KindLaws.{loses_along, only_along, only_both}
use Rattle.ufs_audit.specs.Audits.{HasGeometry}
use Rattle.ufs_audit.proofs.AuditLaws.{none_never, on_table, some_along, structure_then, survey_findings}
use Rattle.ufs_audit.proofs.audits.audit_volume.Goals as goal

pub returns-in_default-clause-gone : goal.returns-in_default-clause-gone
returns-in_default-clause-gone g c =
    let l = g.V.View.size c.args.view.now in
    let n = g.V.View.count c.args.view.now in
    let gone = rw c.in_default.is at c.in_ok-claims.ensures.lost in
    loses_along {kind = IsStructure l n} {other = IsMetadata l n} refl (λ b h. h) (λ is. is) (λ told v on. (on.0, λ block is. of_metadata is)) gone

pub returns-in_err-claims-clause-fetched : goal.returns-in_err-claims-clause-fetched
returns-in_err-claims-clause-fetched g c =
    let l = g.V.View.size c.args.view.now in
    let n = g.V.View.count c.args.view.now in
    only_along {kind = IsStructure l n} {other = IsMetadata l n} (λ told v on. (on.0, λ block is. of_metadata is)) c.scan.ensures.fetched

pub returns-in_default-clause-fetched : goal.returns-in_default-clause-fetched
returns-in_default-clause-fetched g c =
    let l = g.V.View.size c.args.view.now in
    let n = g.V.View.count c.args.view.now in
    only_along {kind = IsStructure l n} {other = IsMetadata l n} (λ told v on. (on.0, λ block is. of_metadata is)) c.scan.ensures.fetched

pub returns-then-not-is_of-clause-fetched : goal.returns-then-not-is_of-clause-fetched
returns-then-not-is_of-clause-fetched g c =
    let l = g.V.View.size c.args.view.now in
    let n = g.V.View.count c.args.view.now in
    only_along {kind = IsStructure l n} {other = IsMetadata l n} (λ told v on. (on.0, λ block is. of_metadata is)) c.scan.ensures.fetched

pub returns-then-not-is_of-clause-found : goal.returns-then-not-is_of-clause-found
returns-then-not-is_of-clause-found g c =
    some_along c.refused.result _ _ (λ findings refusal told v has.
    let claims = rw c.in-Some.is at c.in_ok-claims.ensures.claims in
    let of = claims told v (has.0) in
    let table : (table_of c.in-Some.claims).geometry ≡ Some c.args.g.now = of.geometry ∙ ap accepted (has.1) in
    let no : true ≡ false = sym (c.is_of.ensures.1 table) ∙ c.if-not-is_of.true in cc) c.refused.ensures.found

pub returns-then-not-is_of-clause-gone : goal.returns-then-not-is_of-clause-gone
returns-then-not-is_of-clause-gone g c = none_never c.refused.result _ c.refused.ensures.there

pub returns-in_err-found-clause-fetched : goal.returns-in_err-found-clause-fetched
returns-in_err-found-clause-fetched g c =
    let l = g.V.View.size c.args.view.now in
    let n = g.V.View.count c.args.view.now in
    let gg = c.args.g.now in
    let first = c.scan.ensures.keeps in
    let second = c.survey.ensures.keeps in
    let table = table_of c.in-Some.claims in
    let claims = rw c.in-Some.is at c.in_ok-claims.ensures.claims in
    let of = c.is_of.ensures.0 c.if-not-is_of.false in
    let on = λ (told : g.V.View.tells c.survey.new.view) (v : Volume) (has : HasGeometry g.V.View c.args.view.now gg v).
    on_table (g.V.View.stands_for c.scan.new.view) l n gg table v first.bytes first.blocks (first.stands v (has.0)) (c.tables_of_volumes.ensures.claims l n v table gg (claims (second.told told) v (has.0)) of) (has.1) in
    only_both {kind = IsStructure l n} g.met.V.View.fetched_both second.told (λ told v has. (on told v has, λ block is. structure_then l n v block first.bytes first.blocks is))
    (only_along {kind = IsStructure l n} {other = IsMetadata l n} (λ told v on. (on.0, λ block is. of_metadata is)) c.scan.ensures.fetched)
    c.survey.ensures.fetched

pub returns-in_default-2-clause-fetched : goal.returns-in_default-2-clause-fetched
returns-in_default-2-clause-fetched g c =
    let l = g.V.View.size c.args.view.now in
    let n = g.V.View.count c.args.view.now in
    let gg = c.args.g.now in
    let first = c.scan.ensures.keeps in
    let second = c.survey.ensures.keeps in
    let table = table_of c.in-Some.claims in
    let claims = rw c.in-Some.is at c.in_ok-claims.ensures.claims in
    let of = c.is_of.ensures.0 c.if-not-is_of.false in
    let on = λ (told : g.V.View.tells c.survey.new.view) (v : Volume) (has : HasGeometry g.V.View c.args.view.now gg v).
    on_table (g.V.View.stands_for c.scan.new.view) l n gg table v first.bytes first.blocks (first.stands v (has.0)) (c.tables_of_volumes.ensures.claims l n v table gg (claims (second.told told) v (has.0)) of) (has.1) in
    only_both {kind = IsStructure l n} g.met.V.View.fetched_both second.told (λ told v has. (on told v has, λ block is. structure_then l n v block first.bytes first.blocks is))
    (only_along {kind = IsStructure l n} {other = IsMetadata l n} (λ told v on. (on.0, λ block is. of_metadata is)) c.scan.ensures.fetched)
    c.survey.ensures.fetched

pub returns-in_err-bad-clause-fetched : goal.returns-in_err-bad-clause-fetched
returns-in_err-bad-clause-fetched g c =
    let l = g.V.View.size c.args.view.now in
    let n = g.V.View.count c.args.view.now in
    let gg = c.args.g.now in
    let first = c.scan.ensures.keeps in
    let second = c.survey.ensures.keeps in
    let table = table_of c.in-Some.claims in
    let claims = rw c.in-Some.is at c.in_ok-claims.ensures.claims in
    let of = c.is_of.ensures.0 c.if-not-is_of.false in
    let on = λ (told : g.V.View.tells c.survey.new.view) (v : Volume) (has : HasGeometry g.V.View c.args.view.now gg v).
    on_table (g.V.View.stands_for c.scan.new.view) l n gg table v first.bytes first.blocks (first.stands v (has.0)) (c.tables_of_volumes.ensures.claims l n v table gg (claims (second.told told) v (has.0)) of) (has.1) in
    only_both {kind = IsStructure l n} g.met.V.View.fetched_both second.told (λ told v has. (on told v has, λ block is. structure_then l n v block first.bytes first.blocks is))
    (only_along {kind = IsStructure l n} {other = IsMetadata l n} (λ told v on. (on.0, λ block is. of_metadata is)) c.scan.ensures.fetched)
    c.survey.ensures.fetched

pub returns-clause-fetched : goal.returns-clause-fetched
returns-clause-fetched g c =
    let l = g.V.View.size c.args.view.now in
    let n = g.V.View.count c.args.view.now in
    let gg = c.args.g.now in
    let first = c.scan.ensures.keeps in
    let second = c.survey.ensures.keeps in
    let table = table_of c.in-Some.claims in
    let claims = rw c.in-Some.is at c.in_ok-claims.ensures.claims in
    let of = c.is_of.ensures.0 c.if-not-is_of.false in
    let on = λ (told : g.V.View.tells c.survey.new.view) (v : Volume) (has : HasGeometry g.V.View c.args.view.now gg v).
    on_table (g.V.View.stands_for c.scan.new.view) l n gg table v first.bytes first.blocks (first.stands v (has.0)) (c.tables_of_volumes.ensures.claims l n v table gg (claims (second.told told) v (has.0)) of) (has.1) in
    only_both {kind = IsStructure l n} g.met.V.View.fetched_both second.told (λ told v has. (on told v has, λ block is. structure_then l n v block first.bytes first.blocks is))
    (only_along {kind = IsStructure l n} {other = IsMetadata l n} (λ told v on. (on.0, λ block is. of_metadata is)) c.scan.ensures.fetched)
    c.survey.ensures.fetched

pub returns-in_default-2-clause-gone : goal.returns-in_default-2-clause-gone
returns-in_default-2-clause-gone g c =
    let l = g.V.View.size c.args.view.now in
    let n = g.V.View.count c.args.view.now in
    let gg = c.args.g.now in
    let first = c.scan.ensures.keeps in
    let second = c.survey.ensures.keeps in
    let table = table_of c.in-Some.claims in
    let claims = rw c.in-Some.is at c.in_ok-claims.ensures.claims in
    let of = c.is_of.ensures.0 c.if-not-is_of.false in
    let on = λ (told : g.V.View.tells c.survey.new.view) (v : Volume) (has : HasGeometry g.V.View c.args.view.now gg v).
    on_table (g.V.View.stands_for c.scan.new.view) l n gg table v first.bytes first.blocks (first.stands v (has.0)) (c.tables_of_volumes.ensures.claims l n v table gg (claims (second.told told) v (has.0)) of) (has.1) in
    let gone = rw c.in_default-2.is at c.in_ok-found.ensures.gone in
    loses_along {kind = IsStructure l n} first.blocks (λ b h. h) (λ is. is) (λ told v has. (on told v has, λ block is. structure_then l n v block first.bytes first.blocks is)) gone

pub returns-clause-found : goal.returns-clause-found
returns-clause-found g c =
    let l = g.V.View.size c.args.view.now in
    let n = g.V.View.count c.args.view.now in
    let gg = c.args.g.now in
    let first = c.scan.ensures.keeps in
    let second = c.survey.ensures.keeps in
    let table = table_of c.in-Some.claims in
    let claims = rw c.in-Some.is at c.in_ok-claims.ensures.claims in
    let of = c.is_of.ensures.0 c.if-not-is_of.false in
    let on = λ (told : g.V.View.tells c.survey.new.view) (v : Volume) (has : HasGeometry g.V.View c.args.view.now gg v).
    on_table (g.V.View.stands_for c.scan.new.view) l n gg table v first.bytes first.blocks (first.stands v (has.0)) (c.tables_of_volumes.ensures.claims l n v table gg (claims (second.told told) v (has.0)) of) (has.1) in
    let found = rw c.in-Some-2.is at c.in_ok-found.ensures.found in
    λ told v has.
    let one = on told v has in
    survey_findings l n v gg _ _ _ (has.1) (found told v (one.0, one.1)) c.in_ok-bad.ensures

pub returns-in_err-found-clause-keeps : goal.returns-in_err-found-clause-keeps
returns-in_err-found-clause-keeps g c =
    keeps_both g.met.V.View.further c.args.view.now c.scan.new.view c.survey.new.view c.scan.ensures.keeps c.survey.ensures.keeps

pub returns-in_default-2-clause-keeps : goal.returns-in_default-2-clause-keeps
returns-in_default-2-clause-keeps g c =
    keeps_both g.met.V.View.further c.args.view.now c.scan.new.view c.survey.new.view c.scan.ensures.keeps c.survey.ensures.keeps

pub returns-in_err-bad-clause-keeps : goal.returns-in_err-bad-clause-keeps
returns-in_err-bad-clause-keeps g c =
    keeps_both g.met.V.View.further c.args.view.now c.scan.new.view c.survey.new.view c.scan.ensures.keeps c.survey.ensures.keeps

pub returns-clause-keeps : goal.returns-clause-keeps
returns-clause-keeps g c =
    keeps_both g.met.V.View.further c.args.view.now c.scan.new.view c.survey.new.view c.scan.ensures.keeps c.survey.ensures.keeps
