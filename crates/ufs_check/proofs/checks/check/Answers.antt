use Rattle.std.proofs.Common.{◌≡◌, ◌∙◌, Some, true, false, refl, sym, ap, subst}
use Rattle.dg_io.specs.ViewLaws.{keeps_both}
use Rattle.dg_claims.specs.Kept.{table_of}
use Rattle.std.proofs.Common.{arith}
use Rattle.ufs_model.specs.Malformations.{order_of}
use Rattle.ufs_model.specs.Metadata.{IsMetadataBy}
use Rattle.ufs_model.specs.Superblocks.{geometry_of}
use Rattle.ufs_pointer.specs.Fetches.{IsNeeded}
use Rattle.dg_claims.specs.Tables.{accepted}
use Rattle.dg_claims.specs.ThereLaws.{there_along, there_both, there_read}
use Rattle.ufs_check.proofs.NeedLaws.{metadata_super_cases, metadata_super_only, needed_all}
use Rattle.ufs_check.specs.Verdicts.{Judges}
use Rattle.ufs_check.specs.declared.verdicts.Verdict.TheVariants.{Gone, Malformed, Sound}
use Rattle.ufs_model.specs.Metadata.{IsStructure}
use Rattle.ufs_model.specs.declared.malformations.BadKind.TheVariants.{Super}
use Rattle.ufs_check.proofs.CheckLaws.{first_volume, on_view, refused_first, sound_volume, super_structure, table_claims, volume_fetched}
use Rattle.ufs_check.proofs.PassLaws.{lost_told, only_needs, only_told}
use Rattle.ufs_check.proofs.checks.check.Goals as goal

pub returns-in-None-clause-gone : goal.returns-in-None-clause-gone
returns-in-None-clause-gone g c =
    let l = g.V.View.size c.args.view.now in
    let n = g.V.View.count c.args.view.now in
    λ same. lost_told _ (IsStructure l n) refl (λ told v tabled. (tabled.0, λ block needs. super_structure l n v block needs)) c.in-None.ensures.lost

pub returns-in-None-clause-fetched : goal.returns-in-None-clause-fetched
returns-in-None-clause-fetched g c =
    let l = g.V.View.size c.args.view.now in
    let n = g.V.View.count c.args.view.now in
    only_told (IsStructure l n) (IsStructure l n) (λ told v tabled. (tabled.0, λ block h. h))
    (only_needs (IsStructure l n) (λ v block needs. super_structure l n v block needs) c.read_geometry.ensures.fetched)

pub returns-in-Some-Err-clause-fetched : goal.returns-in-Some-Err-clause-fetched
returns-in-Some-Err-clause-fetched g c =
    let l = g.V.View.size c.args.view.now in
    let n = g.V.View.count c.args.view.now in
    only_told (IsStructure l n) (IsStructure l n) (λ told v tabled. (tabled.0, λ block h. h))
    (only_needs (IsStructure l n) (λ v block needs. super_structure l n v block needs) c.read_geometry.ensures.fetched)

pub returns-in-Some-Err-clause-malformed : goal.returns-in-Some-Err-clause-malformed
returns-in-Some-Err-clause-malformed g c = λ kind m same told v tabled.
    let l = g.V.View.size c.args.view.now in
    let n = g.V.View.count c.args.view.now in
    let reads = rw c.in-Some-Err.field-0-is at c.in-Some-Err.ensures.rule in
    let one : Super c.in-Some-Err.bad ≡ kind = cc in
    let number : 0 ≡ m = cc in
    refused_first l n v c.in-Some-Err.bad kind m (sym ((reads.rule told v (tabled.0)).answer)) one number

pub returns-in_err-check_volume-clause-fetched : goal.returns-in_err-check_volume-clause-fetched
returns-in_err-check_volume-clause-fetched g c =
    let l = g.V.View.size c.args.view.now in
    let n = g.V.View.count c.args.view.now in
    let first = c.read_geometry.ensures.keeps in
    let second = c.check_volume.ensures.keeps in
    let reads = rw c.in-Some-Ok.field-0-is at c.in-Some-Ok.ensures.rule in
    volume_fetched l n c.in-Some-Ok.g (table_of c.args.claims.now) first.bytes first.blocks g.met.V.View.fetched_both first.stands second.told
    (λ told v stands. sym ((reads.rule (second.told told) v stands).answer)) c.read_geometry.ensures.fetched c.check_volume.ensures.fetched

pub returns-in-None-2-clause-fetched : goal.returns-in-None-2-clause-fetched
returns-in-None-2-clause-fetched g c =
    let l = g.V.View.size c.args.view.now in
    let n = g.V.View.count c.args.view.now in
    let first = c.read_geometry.ensures.keeps in
    let second = c.check_volume.ensures.keeps in
    let reads = rw c.in-Some-Ok.field-0-is at c.in-Some-Ok.ensures.rule in
    volume_fetched l n c.in-Some-Ok.g (table_of c.args.claims.now) first.bytes first.blocks g.met.V.View.fetched_both first.stands second.told
    (λ told v stands. sym ((reads.rule (second.told told) v stands).answer)) c.read_geometry.ensures.fetched c.check_volume.ensures.fetched

pub returns-in-Some-clause-fetched : goal.returns-in-Some-clause-fetched
returns-in-Some-clause-fetched g c =
    let l = g.V.View.size c.args.view.now in
    let n = g.V.View.count c.args.view.now in
    let first = c.read_geometry.ensures.keeps in
    let second = c.check_volume.ensures.keeps in
    let reads = rw c.in-Some-Ok.field-0-is at c.in-Some-Ok.ensures.rule in
    volume_fetched l n c.in-Some-Ok.g (table_of c.args.claims.now) first.bytes first.blocks g.met.V.View.fetched_both first.stands second.told
    (λ told v stands. sym ((reads.rule (second.told told) v stands).answer)) c.read_geometry.ensures.fetched c.check_volume.ensures.fetched

pub returns-in-None-2-clause-gone : goal.returns-in-None-2-clause-gone
returns-in-None-2-clause-gone g c =
    let l = g.V.View.size c.args.view.now in
    let n = g.V.View.count c.args.view.now in
    let gg = c.in-Some-Ok.g in
    let first = c.read_geometry.ensures.keeps in
    let second = c.check_volume.ensures.keeps in
    let reads = rw c.in-Some-Ok.field-0-is at c.in-Some-Ok.ensures.rule in
    let gone = rw c.in-None-2.is at c.in_ok-check_volume.ensures.gone in
    λ same. lost_told (IsStructure (g.V.View.size c.read_geometry.new.view) (g.V.View.count c.read_geometry.new.view)) (IsStructure l n) first.blocks (λ told v tabled.
    let is = sym ((reads.rule (second.told told) v (tabled.0)).answer) in
    (on_view l n gg (table_of c.args.claims.now) v first.bytes first.blocks first.stands is tabled, λ block h. rw (first.bytes, first.blocks) at h)) gone

pub returns-in-Some-clause-keeps : goal.returns-in-Some-clause-keeps
returns-in-Some-clause-keeps g c =
    keeps_both g.met.V.View.further c.args.view.now c.read_geometry.new.view c.check_volume.new.view c.read_geometry.ensures.keeps c.check_volume.ensures.keeps

pub returns-in-Some-clause-is_sound : goal.returns-in-Some-clause-is_sound
returns-in-Some-clause-is_sound g c =
    let l = g.V.View.size c.args.view.now in
    let n = g.V.View.count c.args.view.now in
    let gg = c.in-Some-Ok.g in
    let table = table_of c.args.claims.now in
    let first = c.read_geometry.ensures.keeps in
    let second = c.check_volume.ensures.keeps in
    let reads = rw c.in-Some-Ok.field-0-is at c.in-Some-Ok.ensures.rule in
    let found = rw c.in-Some.is at c.in_ok-check_volume.ensures.found in
    λ same told v tabled.
    let is = sym ((reads.rule (second.told told) v (tabled.0)).answer) in
    let judged = c.verdict_of.ensures.judges gg v (found told v (first.stands v (tabled.0), table_claims l n gg v table is (tabled.1))) in
    let verdict : c.verdict_of.result ≡ Sound = cc in
    sound_volume l n gg v is (subst (Judges gg v) verdict judged)

pub returns-in-Some-clause-malformed : goal.returns-in-Some-clause-malformed
returns-in-Some-clause-malformed g c =
    let l = g.V.View.size c.args.view.now in
    let n = g.V.View.count c.args.view.now in
    let gg = c.in-Some-Ok.g in
    let table = table_of c.args.claims.now in
    let first = c.read_geometry.ensures.keeps in
    let second = c.check_volume.ensures.keeps in
    let reads = rw c.in-Some-Ok.field-0-is at c.in-Some-Ok.ensures.rule in
    let found = rw c.in-Some.is at c.in_ok-check_volume.ensures.found in
    λ kind m same told v tabled.
    let is = sym ((reads.rule (second.told told) v (tabled.0)).answer) in
    let judged = c.verdict_of.ensures.judges gg v (found told v (first.stands v (tabled.0), table_claims l n gg v table is (tabled.1))) in
    let verdict : c.verdict_of.result ≡ Malformed kind m = cc in
    first_volume l n gg v kind m is (subst (Judges gg v) verdict judged)

pub returns-in-Some-clause-gone : goal.returns-in-Some-clause-gone
returns-in-Some-clause-gone g c = λ same. absurd (c.verdict_of.ensures.there (let verdict : c.verdict_of.result ≡ Gone = cc in verdict))

pub returns-in-Some-clause-tabled : goal.returns-in-Some-clause-tabled
returns-in-Some-clause-tabled g c = λ same told v stands.
    let second = c.check_volume.ensures.keeps in
    let reads = rw c.in-Some-Ok.field-0-is at c.in-Some-Ok.ensures.rule in
    let is = sym ((reads.rule (second.told told) v stands).answer) in
    c.is_of.ensures.0 c.if-not-is_of.false ∙ ap accepted (sym is)

pub returns-then-not-is_of-clause-malformed : goal.returns-then-not-is_of-clause-malformed
returns-then-not-is_of-clause-malformed g c = λ kind m same told v tabled.
    let reads = rw c.in-Some-Ok.field-0-is at c.in-Some-Ok.ensures.rule in
    let is = sym ((reads.rule told v (tabled.0)).answer) in
    let of = tabled.1 in
    let table : (table_of c.args.claims.now).geometry ≡ Some c.in-Some-Ok.g = of.geometry ∙ ap accepted is in
    let no : true ≡ false = sym (c.is_of.ensures.1 table) ∙ c.if-not-is_of.true in cc

pub returns-in-Some-Err-clause-metadata : goal.returns-in-Some-Err-clause-metadata
returns-in-Some-Err-clause-metadata g c = λ kind m same.
    let l = g.V.View.size c.args.view.now in
    let n = g.V.View.count c.args.view.now in
    let reads = rw c.in-Some-Err.field-0-is at c.in-Some-Err.ensures.rule in
    there_along {other = IsNeeded (geometry_of l n)} (λ b h. h) (λ h. h)
    (λ told v tabled. (tabled.0, λ b of. metadata_super_only l n v c.in-Some-Err.bad b (sym ((reads.rule told v (tabled.0)).answer)) of)) (there_read _ reads)

pub returns-in-Some-Err-clause-directories : goal.returns-in-Some-Err-clause-directories
returns-in-Some-Err-clause-directories g c = λ kind m same late.
    let one : Super c.in-Some-Err.bad ≡ kind = cc in
    let first : order_of kind ≡ 0 = ap order_of (sym one) in
    absurd (omega (arith, first, late))

pub returns-then-not-is_of-clause-metadata : goal.returns-then-not-is_of-clause-metadata
returns-then-not-is_of-clause-metadata g c = λ kind m same. record {
  each = λ told v tabled b of_kind.
      let reads = rw c.in-Some-Ok.field-0-is at c.in-Some-Ok.ensures.rule in
      let is = sym ((reads.rule told v (tabled.0)).answer) in
      let of = tabled.1 in
      let table : (table_of c.args.claims.now).geometry ≡ Some c.in-Some-Ok.g = of.geometry ∙ ap accepted is in
      absurd (let no : true ≡ false = sym (c.is_of.ensures.1 table) ∙ c.if-not-is_of.true in cc);
}

pub returns-then-not-is_of-clause-directories : goal.returns-then-not-is_of-clause-directories
returns-then-not-is_of-clause-directories g c = λ kind m same late. record {
  each = λ told v tabled b of_kind.
      let reads = rw c.in-Some-Ok.field-0-is at c.in-Some-Ok.ensures.rule in
      let is = sym ((reads.rule told v (tabled.0)).answer) in
      let of = tabled.1 in
      let table : (table_of c.args.claims.now).geometry ≡ Some c.in-Some-Ok.g = of.geometry ∙ ap accepted is in
      absurd (let no : true ≡ false = sym (c.is_of.ensures.1 table) ∙ c.if-not-is_of.true in cc);
}

pub returns-in-Some-clause-metadata : goal.returns-in-Some-clause-metadata
returns-in-Some-clause-metadata g c = λ kind m same.
    let l = g.V.View.size c.args.view.now in
    let n = g.V.View.count c.args.view.now in
    let gg = c.in-Some-Ok.g in
    let table = table_of c.args.claims.now in
    let first = c.read_geometry.ensures.keeps in
    let second = c.check_volume.ensures.keeps in
    let reads = rw c.in-Some-Ok.field-0-is at c.in-Some-Ok.ensures.rule in
    let there = rw c.in-Some.is at c.in_ok-check_volume.ensures.metadata in
    there_both (λ told v tabled b of. metadata_super_cases l n v gg b (sym ((reads.rule (second.told told) v (tabled.0)).answer)) of)
    (there_along {other = IsNeeded (geometry_of l n)} (λ b h. h) second.told (λ told v tabled. (tabled.0, λ b h. h)) (there_read _ reads))
    (there_along {other = IsMetadataBy gg} first.stays (λ h. h)
    (λ told v tabled. ((first.stands v (tabled.0), table_claims l n gg v table (sym ((reads.rule (second.told told) v (tabled.0)).answer)) (tabled.1)), λ b h. h)) there)

pub returns-in-Some-clause-there : goal.returns-in-Some-clause-there
returns-in-Some-clause-there g c = λ same.
    let l = g.V.View.size c.args.view.now in
    let n = g.V.View.count c.args.view.now in
    let gg = c.in-Some-Ok.g in
    let table = table_of c.args.claims.now in
    let first = c.read_geometry.ensures.keeps in
    let second = c.check_volume.ensures.keeps in
    let reads = rw c.in-Some-Ok.field-0-is at c.in-Some-Ok.ensures.rule in
    let found = rw c.in-Some.is at c.in_ok-check_volume.ensures.found in
    let there = rw c.in-Some.is at c.in_ok-check_volume.ensures.there in
    let verdict : c.verdict_of.result ≡ Sound = cc in
    needed_all l n gg table c.in-Some.faults first.stays first.stands second.told (λ told v stands. sym ((reads.rule (second.told told) v stands).answer)) (there_read _ reads) found
    (λ told v tabled kind k low bad.
    let is = sym ((reads.rule (second.told told) v (tabled.0)).answer) in
    let judged = c.verdict_of.ensures.judges gg v (found told v (first.stands v (tabled.0), table_claims l n gg v table is (tabled.1))) in
    (subst (Judges gg v) verdict judged) kind k bad) there

pub returns-in-Some-clause-directories : goal.returns-in-Some-clause-directories
returns-in-Some-clause-directories g c = λ kind m same late.
    let l = g.V.View.size c.args.view.now in
    let n = g.V.View.count c.args.view.now in
    let gg = c.in-Some-Ok.g in
    let table = table_of c.args.claims.now in
    let first = c.read_geometry.ensures.keeps in
    let second = c.check_volume.ensures.keeps in
    let reads = rw c.in-Some-Ok.field-0-is at c.in-Some-Ok.ensures.rule in
    let found = rw c.in-Some.is at c.in_ok-check_volume.ensures.found in
    let there = rw c.in-Some.is at c.in_ok-check_volume.ensures.there in
    let verdict : c.verdict_of.result ≡ Malformed kind m = cc in
    needed_all l n gg table c.in-Some.faults first.stays first.stands second.told (λ told v stands. sym ((reads.rule (second.told told) v stands).answer)) (there_read _ reads) found
    (λ told v tabled other k low bad.
    let is = sym ((reads.rule (second.told told) v (tabled.0)).answer) in
    let judged = c.verdict_of.ensures.judges gg v (found told v (first.stands v (tabled.0), table_claims l n gg v table is (tabled.1))) in
    (subst (Judges gg v) verdict judged).first other k (omega (arith, low, late)) bad) there
