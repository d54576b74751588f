use Rattle.std.proofs.Common.{◌≡◌, ◌∙◌, refl, sym, ap}
use Rattle.ufs_pointer.specs.KindLaws.{loses_along}
use Rattle.dg_model.specs.Volumes.{geometry_on}
use Rattle.dg_claims.specs.Tables.{accepted}
use Rattle.dg_infer.proofs.WriteLaws.{TableLaws, loses_whole, stands_anew, stands_shown, super_needed}
use Rattle.dg_infer.proofs.WholeLaws.{super_only, whole_only}
use Rattle.dg_infer.specs.Writes.{IsKnownWhole}
use Rattle.dg_infer.proofs.inferences.Inference.restored.Goals as goal

pub returns-in_default-clause-lost : goal.returns-in_default-clause-lost
returns-in_default-clause-lost g c =
    loses_along refl (λ b h. h) (λ h. h) (λ told v h. (h.0, super_needed (g.V.View.size c.args.view.now) (g.V.View.count c.args.view.now) v)) (rw c.in_default.is at c.read_geometry.ensures.lost)

pub returns-in_default-2-clause-lost : goal.returns-in_default-2-clause-lost
returns-in_default-2-clause-lost g c =
    let first = c.read_geometry.ensures.keeps in
    let reads = rw c.in-Some.is at c.read_geometry.ensures.rule in
    loses_whole g.V.View c.args.view.now c.read_geometry.new.view c.restored_parts.new.view c.accepted-geometry.result first.blocks first.stands
    (λ told v holds. c.accepted-geometry.ensures.value ∙ ap accepted ((reads.rule (c.restored_parts.ensures.keeps.told told) v holds).answer))
    (rw c.in_default-2.is at c.in_ok-parts.ensures.lost)

pub returns-clause-stands : goal.returns-clause-stands
returns-clause-stands g c = λ v h.
    let laws : TableLaws = record { accepted = c.tables_of_volumes.ensures.accepted; refused = c.tables_of_volumes.ensures.refused; claims = c.tables_of_volumes.ensures.claims } in
    let l = g.V.View.size c.args.view.now in
    let n = g.V.View.count c.args.view.now in
    let first = c.read_geometry.ensures.keeps in
    let reads = rw c.in-Some.is at c.read_geometry.ensures.rule in
    let is : c.accepted-geometry.result ≡ accepted (geometry_on l n v) =
    c.accepted-geometry.ensures.value ∙ ap accepted ((reads.rule (c.restored_parts.ensures.keeps.told h.tells) v h.stands).answer) in
    let known : IsKnownWhole g.V.View c.read_geometry.new.view c.restored_parts.new.view v = record { tells = h.tells; stands = first.stands v h.stands; number = h.number ∙ sym first.blocks } in
    let parts = rw c.in-Some-2.is at c.in_ok-parts.ensures.parts in
    let has = rw c.in-Some-2.is at c.in_ok-parts.ensures.geometry in
    let all = stands_anew laws l n v c.accepted-geometry.result c.in-Some-2.parts.claims c.in-Some-2.parts.kinds.entries c.in_ok-marks.marks.items c.in-Some-2.parts.free.items c.args.pending.now
    h.number is has (parts v known) c.in_ok-marks.ensures.marks in
    stands_shown _ l n c.accepted-geometry.result c.in-Some-2.parts.claims c.in-Some-2.parts.kinds.entries c.in-Some-2.parts.free.items v
    c.shape-l.ensures.size c.shape-l.ensures.count refl refl refl refl (all.0)

pub returns-clause-pending : goal.returns-clause-pending
returns-clause-pending g c = λ v. record {
  size = c.in_ok-marks.ensures.room;
  fewer = λ b t. ((c.in_ok-marks.ensures.marks b).0 t).0;
  are = λ h.
      let laws : TableLaws = record { accepted = c.tables_of_volumes.ensures.accepted; refused = c.tables_of_volumes.ensures.refused; claims = c.tables_of_volumes.ensures.claims } in
      let l = g.V.View.size c.args.view.now in
      let n = g.V.View.count c.args.view.now in
      let first = c.read_geometry.ensures.keeps in
      let reads = rw c.in-Some.is at c.read_geometry.ensures.rule in
      let is : c.accepted-geometry.result ≡ accepted (geometry_on l n v) =
      c.accepted-geometry.ensures.value ∙ ap accepted ((reads.rule (c.restored_parts.ensures.keeps.told h.tells) v h.stands).answer) in
      let known : IsKnownWhole g.V.View c.read_geometry.new.view c.restored_parts.new.view v = record { tells = h.tells; stands = first.stands v h.stands; number = h.number ∙ sym first.blocks } in
      let parts = rw c.in-Some-2.is at c.in_ok-parts.ensures.parts in
      let has = rw c.in-Some-2.is at c.in_ok-parts.ensures.geometry in
      let all = stands_anew laws l n v c.accepted-geometry.result c.in-Some-2.parts.claims c.in-Some-2.parts.kinds.entries c.in_ok-marks.marks.items c.in-Some-2.parts.free.items c.args.pending.now
      h.number is has (parts v known) c.in_ok-marks.ensures.marks in
      all.1;
}

pub returns-in_default-clause-fetched : goal.returns-in_default-clause-fetched
returns-in_default-clause-fetched g c = super_only g.V.View c.args.view.now c.read_geometry.new.view c.read_geometry.result c.read_geometry.ensures.fetched

pub returns-in_err-parts-clause-fetched : goal.returns-in_err-parts-clause-fetched
returns-in_err-parts-clause-fetched g c =
    whole_only g.V.View g.met.V.View.fetched_both c.args.view.now c.read_geometry.new.view c.restored_parts.new.view c.in-Some.found c.accepted-geometry.result c.read_geometry.result
    c.accepted-geometry.ensures.value c.read_geometry.ensures.keeps (rw c.in-Some.is at c.read_geometry.ensures.rule) c.restored_parts.ensures.keeps.told
    c.read_geometry.ensures.fetched c.restored_parts.ensures.fetched

pub returns-in_default-2-clause-fetched : goal.returns-in_default-2-clause-fetched
returns-in_default-2-clause-fetched g c =
    whole_only g.V.View g.met.V.View.fetched_both c.args.view.now c.read_geometry.new.view c.restored_parts.new.view c.in-Some.found c.accepted-geometry.result c.read_geometry.result
    c.accepted-geometry.ensures.value c.read_geometry.ensures.keeps (rw c.in-Some.is at c.read_geometry.ensures.rule) c.restored_parts.ensures.keeps.told
    c.read_geometry.ensures.fetched c.restored_parts.ensures.fetched

pub returns-in_err-marks-clause-fetched : goal.returns-in_err-marks-clause-fetched
returns-in_err-marks-clause-fetched g c =
    whole_only g.V.View g.met.V.View.fetched_both c.args.view.now c.read_geometry.new.view c.restored_parts.new.view c.in-Some.found c.accepted-geometry.result c.read_geometry.result
    c.accepted-geometry.ensures.value c.read_geometry.ensures.keeps (rw c.in-Some.is at c.read_geometry.ensures.rule) c.restored_parts.ensures.keeps.told
    c.read_geometry.ensures.fetched c.restored_parts.ensures.fetched

pub returns-clause-fetched : goal.returns-clause-fetched
returns-clause-fetched g c =
    whole_only g.V.View g.met.V.View.fetched_both c.args.view.now c.read_geometry.new.view c.restored_parts.new.view c.in-Some.found c.accepted-geometry.result c.read_geometry.result
    c.accepted-geometry.ensures.value c.read_geometry.ensures.keeps (rw c.in-Some.is at c.read_geometry.ensures.rule) c.restored_parts.ensures.keeps.told
    c.read_geometry.ensures.fetched c.restored_parts.ensures.fetched
