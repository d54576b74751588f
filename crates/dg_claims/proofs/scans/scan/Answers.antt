use Rattle.std.proofs.Common.{refl}
use Rattle.ufs_pointer.specs.KindLaws.{loses_along, only_both, only_of}
use Rattle.std.proofs.Common.{Err, Ok}
use Rattle.ufs_model.specs.Superblocks.{geometry_of}
use Rattle.ufs_pointer.specs.Fetches.{IsNeeded}
use Rattle.dg_claims.proofs.AnswerLaws.{ok_none, ok_some}
use Rattle.dg_claims.proofs.ThereScan.{super_cases, super_only}
use Rattle.dg_claims.specs.Scans.{IsClaimReadBy}
use Rattle.dg_claims.specs.ThereLaws.{there_along, there_both, there_read}
use Rattle.dg_claims.proofs.MetadataLaws.{metadata_by, super_needed, table_accepted, table_refused}
use Rattle.dg_claims.specs.Kept.{table_of}
use Rattle.ufs_model.specs.Metadata.{IsMetadata}
use Rattle.dg_claims.proofs.scans.scan.Goals as goal

pub returns-in_err-new-in-Some-Err-clause-fetched : goal.returns-in_err-new-in-Some-Err-clause-fetched
returns-in_err-new-in-Some-Err-clause-fetched g c =
    let l = g.V.View.size c.args.view.now in
    only_of (IsMetadata l (g.V.View.count c.args.view.now)) (λ v holds. super_needed l (g.V.View.count c.args.view.now) v) c.read_geometry.ensures.fetched

pub returns-in-Some-Ok-clause-claims : goal.returns-in-Some-Ok-clause-claims
returns-in-Some-Ok-clause-claims g c =
    let reads = rw c.in-Some-Ok.field-0-is at c.in-Some-Ok.ensures.rule in
    let keeps = c.in-Some-Ok.ensures.keeps in
    ok_some c.scan_volume.result _ _ _ (λ claims geometry told is v holds.
    table_accepted (g.V.View.size c.args.view.now) (g.V.View.count c.args.view.now) v (table_of claims) c.in-Some-Ok.g ((reads.rule (c.scan_volume.ensures.keeps.told is) v holds).answer) geometry
    (told is v (keeps.stands v holds))) c.scan_volume.ensures.geometry c.scan_volume.ensures.claims

pub returns-in-Some-Ok-clause-lost : goal.returns-in-Some-Ok-clause-lost
returns-in-Some-Ok-clause-lost g c =
    let reads = rw c.in-Some-Ok.field-0-is at c.in-Some-Ok.ensures.rule in
    let keeps = c.read_geometry.ensures.keeps in
    ok_none c.scan_volume.result _ _
    (loses_along keeps.blocks (λ b h. h) (λ h. h) (λ is v holds. (keeps.stands v holds, metadata_by (g.V.View.size c.args.view.now) (g.V.View.count c.args.view.now) v c.in-Some-Ok.g ((reads.rule (c.scan_volume.ensures.keeps.told is) v holds).answer))))
    c.scan_volume.ensures.lost

pub returns-in-Some-Ok-clause-fetched : goal.returns-in-Some-Ok-clause-fetched
returns-in-Some-Ok-clause-fetched g c =
    let reads = rw c.in-Some-Ok.field-0-is at c.in-Some-Ok.ensures.rule in
    let keeps = c.in-Some-Ok.ensures.keeps in
    let l = g.V.View.size c.args.view.now in
    let n = g.V.View.count c.args.view.now in
    only_both g.met.V.View.fetched_both c.scan_volume.ensures.keeps.told
    (λ is v holds. (keeps.stands v holds, metadata_by l n v c.in-Some-Ok.g ((reads.rule (c.scan_volume.ensures.keeps.told is) v holds).answer)))
    (only_of (IsMetadata l n) (λ v holds. super_needed l n v) c.read_geometry.ensures.fetched) c.scan_volume.ensures.fetched

pub returns-in_ok-new-in-Some-Err-clause-claims : goal.returns-in_ok-new-in-Some-Err-clause-claims
returns-in_ok-new-in-Some-Err-clause-claims g c = λ is v holds.
    let reads = rw c.in-Some-Err.field-0-is at c.in-Some-Err.ensures.rule in
    table_refused (g.V.View.size c.args.view.now) (g.V.View.count c.args.view.now) v (table_of c.in_ok-new-in-Some-Err.field-0) c.in-Some-Err.field-0-0 ((reads.rule is v holds).answer)
    c.in_ok-new-in-Some-Err.ensures.geometry c.in_ok-new-in-Some-Err.ensures.none

pub returns-in_ok-new-in-Some-Err-clause-fetched : goal.returns-in_ok-new-in-Some-Err-clause-fetched
returns-in_ok-new-in-Some-Err-clause-fetched g c =
    let l = g.V.View.size c.args.view.now in
    only_of (IsMetadata l (g.V.View.count c.args.view.now)) (λ v holds. super_needed l (g.V.View.count c.args.view.now) v) c.read_geometry.ensures.fetched

pub returns-in-None-clause-lost : goal.returns-in-None-clause-lost
returns-in-None-clause-lost g c =
    let l = g.V.View.size c.args.view.now in
    loses_along refl (λ b h. h) (λ h. h) (λ is v holds. (holds, super_needed l (g.V.View.count c.args.view.now) v)) c.in-None.ensures.lost

pub returns-in-None-clause-fetched : goal.returns-in-None-clause-fetched
returns-in-None-clause-fetched g c =
    let l = g.V.View.size c.args.view.now in
    only_of (IsMetadata l (g.V.View.count c.args.view.now)) (λ v holds. super_needed l (g.V.View.count c.args.view.now) v) c.read_geometry.ensures.fetched

pub returns-in-Some-Ok-clause-there : goal.returns-in-Some-Ok-clause-there
returns-in-Some-Ok-clause-there g c =
    let l = g.V.View.size c.args.view.now in
    let n = g.V.View.count c.args.view.now in
    let reads = rw c.in-Some-Ok.field-0-is at c.in-Some-Ok.ensures.rule in
    let keeps = c.in-Some-Ok.ensures.keeps in
    let told = c.scan_volume.ensures.keeps.told in
    ok_some c.scan_volume.result _ _ _ (λ claims there geometry.
    there_both (λ is v holds b of. super_cases l n v c.in-Some-Ok.g b ((reads.rule (told is) v holds).answer) of)
    (there_along {other = IsNeeded (geometry_of l n)} (λ b h. h) told (λ is v holds. (holds, λ b h. h)) (there_read (Ok c.in-Some-Ok.g) reads))
    (there_along {other = IsClaimReadBy c.in-Some-Ok.g} keeps.stays (λ h. h) (λ is v holds. (keeps.stands v holds, λ b h. h)) there)) c.scan_volume.ensures.there c.scan_volume.ensures.geometry

pub returns-in_ok-new-in-Some-Err-clause-there : goal.returns-in_ok-new-in-Some-Err-clause-there
returns-in_ok-new-in-Some-Err-clause-there g c =
    let l = g.V.View.size c.args.view.now in
    let n = g.V.View.count c.args.view.now in
    let reads = rw c.in-Some-Err.field-0-is at c.in-Some-Err.ensures.rule in
    there_along {other = IsNeeded (geometry_of l n)} (λ b h. h) (λ h. h)
    (λ is v holds. (holds, λ b of. super_only l n v c.in-Some-Err.field-0-0 b ((reads.rule is v holds).answer) of)) (there_read (Err c.in-Some-Err.field-0-0) reads)
