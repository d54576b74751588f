use Rattle.std.proofs.Common.{◌≡◌, ◌∙◌, ◌<◌, ◌*◌, Some, true, false, refl, sym, ap, subst}
use Rattle.std.proofs.lemmas.Bool.{false≢true, true≢false}
use Rattle.dg_io.specs.ViewLaws.{keeps_both}
use Rattle.dg_claims.specs.Kept.{table_of}
use Rattle.dg_claims.specs.Tables.{accepted}
use Rattle.ufs_audit.specs.Audits.{HasGeometry}
use Rattle.ufs_audit.specs.Holders.{AreHeld, AreMarks}
use Rattle.ufs_audit.specs.Losses.{IsPart}
use Rattle.ufs_audit.specs.Structures.{IsDirectoryOf}
use Rattle.ufs_audit.proofs.LossLaws.{are_right, bounds_of, has_part, lost_part, part_structure, structure_part, was_there}
use Rattle.ufs_model.specs.Blocks.{Volume}
use Rattle.ufs_model.specs.Metadata.{IsMetadata, IsStructure}
use Rattle.ufs_model.specs.Metadata.IsMetadata.{by_geometry}
use Rattle.ufs_model.specs.Metadata.IsStructure.{of_metadata}
use Rattle.ufs_pointer.specs.KindLaws.{loses_along, only_along, only_both}
use Rattle.ufs_audit.proofs.losses.volume_has_gone.Goals as goal

pub returns-in_default-clause-gone : goal.returns-in_default-clause-gone
returns-in_default-clause-gone g c =
    let l = g.V.View.size c.args.view.now in
    let n = g.V.View.count c.args.view.now in
    let gone = rw c.in_default.is at c.in_ok-claims.ensures.lost in
    λ is. loses_along {kind = IsStructure l n} {other = IsMetadata l n} refl (λ b h. h) (λ told. told) (λ told v has. (has.0, λ block is. of_metadata is)) gone

pub returns-in_default-clause-there : goal.returns-in_default-clause-there
returns-in_default-clause-there g c =
    λ is. absurd (true≢false is)

pub returns-in_err-claims-clause-fetched : goal.returns-in_err-claims-clause-fetched
returns-in_err-claims-clause-fetched g c =
    let l = g.V.View.size c.args.view.now in
    let n = g.V.View.count c.args.view.now in
    only_along {kind = IsStructure l n} {other = IsMetadata l n} (λ told v has. (has.0, λ block is. of_metadata is)) c.scan.ensures.fetched

pub returns-in_default-clause-fetched : goal.returns-in_default-clause-fetched
returns-in_default-clause-fetched g c =
    let l = g.V.View.size c.args.view.now in
    let n = g.V.View.count c.args.view.now in
    only_along {kind = IsStructure l n} {other = IsMetadata l n} (λ told v has. (has.0, λ block is. of_metadata is)) c.scan.ensures.fetched

pub returns-then-not-is_of-clause-fetched : goal.returns-then-not-is_of-clause-fetched
returns-then-not-is_of-clause-fetched g c =
    let l = g.V.View.size c.args.view.now in
    let n = g.V.View.count c.args.view.now in
    only_along {kind = IsStructure l n} {other = IsMetadata l n} (λ told v has. (has.0, λ block is. of_metadata is)) c.scan.ensures.fetched

pub returns-then-not-is_of-clause-there : goal.returns-then-not-is_of-clause-there
returns-then-not-is_of-clause-there g c =
    λ same told v has.
    let claims = rw c.in-Some.is at c.in_ok-claims.ensures.claims in
    let of = claims told v (has.0) in
    let table : (table_of c.in-Some.claims).geometry ≡ Some c.args.g.now = of.geometry ∙ ap accepted (has.1) in
    let no : true ≡ false = sym (c.is_of.ensures.1 table) ∙ c.if-not-is_of.true in cc

pub returns-then-not-is_of-clause-gone : goal.returns-then-not-is_of-clause-gone
returns-then-not-is_of-clause-gone g c =
    λ is. absurd (false≢true is)

pub returns-in_err-directories-clause-fetched : goal.returns-in_err-directories-clause-fetched
returns-in_err-directories-clause-fetched g c =
    let l = g.V.View.size c.args.view.now in
    let n = g.V.View.count c.args.view.now in
    let gg = c.args.g.now in
    let first = c.scan.ensures.keeps in
    let second = c.find_directories.ensures.keeps in
    only_both {kind = IsStructure l n} g.met.V.View.fetched_both second.told (λ told v has. ((first.stands v (has.0)), λ block is. of_metadata (by_geometry gg (has.1) is)))
    (only_along {kind = IsStructure l n} {other = IsMetadata l n} (λ told v has. (has.0, λ block is. of_metadata is)) c.scan.ensures.fetched)
    c.find_directories.ensures.fetched

pub returns-in_err-directories-clause-keeps : goal.returns-in_err-directories-clause-keeps
returns-in_err-directories-clause-keeps g c =
    keeps_both g.met.V.View.further c.args.view.now c.scan.new.view c.find_directories.new.view c.scan.ensures.keeps c.find_directories.ensures.keeps

pub returns-in_default-2-clause-fetched : goal.returns-in_default-2-clause-fetched
returns-in_default-2-clause-fetched g c =
    let l = g.V.View.size c.args.view.now in
    let n = g.V.View.count c.args.view.now in
    let gg = c.args.g.now in
    let first = c.scan.ensures.keeps in
    let second = c.find_directories.ensures.keeps in
    only_both {kind = IsStructure l n} g.met.V.View.fetched_both second.told (λ told v has. ((first.stands v (has.0)), λ block is. of_metadata (by_geometry gg (has.1) is)))
    (only_along {kind = IsStructure l n} {other = IsMetadata l n} (λ told v has. (has.0, λ block is. of_metadata is)) c.scan.ensures.fetched)
    c.find_directories.ensures.fetched

pub returns-in_default-2-clause-keeps : goal.returns-in_default-2-clause-keeps
returns-in_default-2-clause-keeps g c =
    keeps_both g.met.V.View.further c.args.view.now c.scan.new.view c.find_directories.new.view c.scan.ensures.keeps c.find_directories.ensures.keeps

pub returns-in_err-marks-clause-fetched : goal.returns-in_err-marks-clause-fetched
returns-in_err-marks-clause-fetched g c =
    let l = g.V.View.size c.args.view.now in
    let n = g.V.View.count c.args.view.now in
    let gg = c.args.g.now in
    let first = c.scan.ensures.keeps in
    let second = c.find_directories.ensures.keeps in
    only_both {kind = IsStructure l n} g.met.V.View.fetched_both second.told (λ told v has. ((first.stands v (has.0)), λ block is. of_metadata (by_geometry gg (has.1) is)))
    (only_along {kind = IsStructure l n} {other = IsMetadata l n} (λ told v has. (has.0, λ block is. of_metadata is)) c.scan.ensures.fetched)
    c.find_directories.ensures.fetched

pub returns-in_err-marks-clause-keeps : goal.returns-in_err-marks-clause-keeps
returns-in_err-marks-clause-keeps g c =
    keeps_both g.met.V.View.further c.args.view.now c.scan.new.view c.find_directories.new.view c.scan.ensures.keeps c.find_directories.ensures.keeps

pub returns-clause-fetched : goal.returns-clause-fetched
returns-clause-fetched g c =
    let l = g.V.View.size c.args.view.now in
    let n = g.V.View.count c.args.view.now in
    let gg = c.args.g.now in
    let first = c.scan.ensures.keeps in
    let second = c.find_directories.ensures.keeps in
    only_both {kind = IsStructure l n} g.met.V.View.fetched_both second.told (λ told v has. ((first.stands v (has.0)), λ block is. of_metadata (by_geometry gg (has.1) is)))
    (only_along {kind = IsStructure l n} {other = IsMetadata l n} (λ told v has. (has.0, λ block is. of_metadata is)) c.scan.ensures.fetched)
    c.find_directories.ensures.fetched

pub returns-clause-keeps : goal.returns-clause-keeps
returns-clause-keeps g c =
    keeps_both g.met.V.View.further c.args.view.now c.scan.new.view c.find_directories.new.view c.scan.ensures.keeps c.find_directories.ensures.keeps

pub returns-in_default-2-clause-gone : goal.returns-in_default-2-clause-gone
returns-in_default-2-clause-gone g c =
    let l = g.V.View.size c.args.view.now in
    let n = g.V.View.count c.args.view.now in
    let gg = c.args.g.now in
    let first = c.scan.ensures.keeps in
    let gone = rw c.in_default-2.is at c.in_ok-directories.ensures.gone in
    λ is. loses_along {kind = IsStructure l n} first.blocks (λ b h. h) (λ told. told) (λ told v has. (first.stands v (has.0), λ block is. of_metadata (by_geometry gg (has.1) is))) gone

pub returns-in_default-2-clause-there : goal.returns-in_default-2-clause-there
returns-in_default-2-clause-there g c =
    λ is. absurd (true≢false is)

pub returns-clause-gone : goal.returns-clause-gone
returns-clause-gone g c =
    let l = g.V.View.size c.args.view.now in
    let n = g.V.View.count c.args.view.now in
    let gg = c.args.g.now in
    let first = c.scan.ensures.keeps in
    let second = c.find_directories.ensures.keeps in
    let table = table_of c.in-Some.claims in
    let dirs = c.deref.result.now in
    let marks = c.deref-2.result.now in
    let claims = rw c.in-Some.is at c.in_ok-claims.ensures.claims in
    let found = rw c.in-Some-2.is at c.in_ok-directories.ensures.found in
    let of = c.is_of.ensures.0 c.if-not-is_of.false in
    let bounds = bounds_of table gg of c.claims_inside.ensures.inside c.claims_inside.ensures.levels c.claims_inside.ensures.sources in
    let right = λ (told : g.V.View.tells c.find_directories.new.view) (v : Volume) (has : HasGeometry g.V.View c.args.view.now gg v).
    are_right gg v l n table dirs marks (has.1) (c.tables_of_volumes.ensures.claims l n v table gg (claims (second.told told) v (has.0)) of) bounds
    (subst (AreMarks (IsDirectoryOf gg v) (gg.ncg * gg.ipg)) (sym c.deref.ensures.value) (found told v (first.stands v (has.0))))
    (subst (AreMarks (AreHeld table dirs 0) gg.size) (sym c.deref-2.ensures.value) c.in_ok-marks.ensures) in
    λ is.
    let lost = lost_part g.V.View c.find_directories.new.view (IsPart gg table marks) c.parts_have_gone.result c.parts_have_gone.ensures is in
    record {
      block = lost.block;
      within = subst (λ k. lost.block < k) (second.blocks ∙ first.blocks) lost.within;
      lost = lost.lost;
      of_kind = λ told v has. part_structure gg v l n table dirs marks (right told v has) lost.block lost.of_part;
    }

pub returns-clause-there : goal.returns-clause-there
returns-clause-there g c =
    let l = g.V.View.size c.args.view.now in
    let n = g.V.View.count c.args.view.now in
    let gg = c.args.g.now in
    let first = c.scan.ensures.keeps in
    let second = c.find_directories.ensures.keeps in
    let table = table_of c.in-Some.claims in
    let dirs = c.deref.result.now in
    let marks = c.deref-2.result.now in
    let claims = rw c.in-Some.is at c.in_ok-claims.ensures.claims in
    let found = rw c.in-Some-2.is at c.in_ok-directories.ensures.found in
    let of = c.is_of.ensures.0 c.if-not-is_of.false in
    let bounds = bounds_of table gg of c.claims_inside.ensures.inside c.claims_inside.ensures.levels c.claims_inside.ensures.sources in
    let right = λ (told : g.V.View.tells c.find_directories.new.view) (v : Volume) (has : HasGeometry g.V.View c.args.view.now gg v).
    are_right gg v l n table dirs marks (has.1) (c.tables_of_volumes.ensures.claims l n v table gg (claims (second.told told) v (has.0)) of) bounds
    (subst (AreMarks (IsDirectoryOf gg v) (gg.ncg * gg.ipg)) (sym c.deref.ensures.value) (found told v (first.stands v (has.0))))
    (subst (AreMarks (AreHeld table dirs 0) gg.size) (sym c.deref-2.ensures.value) c.in_ok-marks.ensures) in
    λ is told v has b low behind.
    let none = has_part g.V.View c.find_directories.new.view (IsPart gg table marks) c.parts_have_gone.result c.parts_have_gone.ensures is in
    let within = subst (λ k. b < k) (sym (second.blocks ∙ first.blocks)) low in
    was_there (g.V.View.is_gone c.args.view.now b) (g.V.View.is_gone c.find_directories.new.view b) (λ gone. second.stays b (first.stays b gone))
    (none b within (structure_part gg v l n table dirs marks (right told v has) b behind.of_structure behind.behind))
