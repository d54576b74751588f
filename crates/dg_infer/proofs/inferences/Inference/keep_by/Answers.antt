use Rattle.std.proofs.Common.{◌≡◌, ◌∙◌, List, Bool, Some, length, refl, sym, ap, subst}
use Rattle.std.proofs.lemmas.List.{with_items_is}
use Rattle.std.specs.Prelude.{slice_set}
use Rattle.dg_io.specs.ViewLaws.{keeps_both}
use Rattle.dg_model.specs.Volumes.{geometry_on}
use Rattle.ufs_model.specs.Metadata.{by_geometry, of_indirect}
use Rattle.ufs_pointer.specs.KindLaws.{loses_along}
use Rattle.dg_claims.specs.Kept.{table_of}
use Rattle.dg_claims.specs.Tables.{accepted}
use Rattle.dg_infer.proofs.TargetLaws.{this_block}
use Rattle.dg_infer.proofs.VolumeLaws.{accepted_some}
use Rattle.dg_infer.proofs.BoundLaws.{kept_fetched}
use Rattle.dg_infer.proofs.FetchedLaws.{fetches_none, places_none}
use Rattle.dg_infer.proofs.WriteLaws.{TableLaws, claims_by, kept_by, shown}
use Rattle.dg_infer.specs.Areas.{IsGroupRest}
use Rattle.dg_infer.specs.Inferences.{kept_in}
use Rattle.dg_infer.specs.Meanings.{KeptInference, StandsFor}
use Rattle.dg_infer.specs.Moves.{Follows}
use Rattle.dg_infer.proofs.inferences.Inference.keep_by.Goals as goal

pub returns-in_err-move_free-clause-keeps : goal.returns-in_err-move_free-clause-keeps
returns-in_err-move_free-clause-keeps g c =
    keeps_both g.met.V.View.further c.args.view.now c.move_claims.new.view c.move_free.new.view c.move_claims.ensures.keeps c.move_free.ensures.keeps

pub returns-then-not-branch-2-clause-keeps : goal.returns-then-not-branch-2-clause-keeps
returns-then-not-branch-2-clause-keeps g c =
    keeps_both g.met.V.View.further c.args.view.now c.move_claims.new.view c.move_free.new.view c.move_claims.ensures.keeps c.move_free.ensures.keeps

pub returns-clause-keeps : goal.returns-clause-keeps
returns-clause-keeps g c = keeps_both g.met.V.View.further c.args.view.now c.move_claims.new.view c.move_free.new.view c.move_claims.ensures.keeps c.move_free.ensures.keeps

pub returns-then-not-branch-clause-pending : goal.returns-then-not-branch-clause-pending
returns-then-not-branch-clause-pending g c = ap (λ (k : KeptInference). k.pending) c.self.view_is

pub returns-then-not-branch-2-clause-pending : goal.returns-then-not-branch-2-clause-pending
returns-then-not-branch-2-clause-pending g c = ap (λ (k : KeptInference). k.pending) c.self.view_is

pub returns-then-not-branch-clause-lost : goal.returns-then-not-branch-clause-lost
returns-then-not-branch-clause-lost g c =
    let laws : TableLaws = record { accepted = c.tables_of_volumes.ensures.accepted; refused = c.tables_of_volumes.ensures.refused; claims = c.tables_of_volumes.ensures.claims } in
    let old = kept_in c.self.inside in
    let had : c.self.inside.claims.geometry ≡ Some c.args.g.now = c.self.invariant.same ∙ ap (λ (k : KeptInference). k.geometry) c.self.view_is ∙ c.requires.known in
    loses_along refl (λ b h. h) (λ h. h) (λ is w h.
    let written = h.0 in
    let made = written.1 in
    let was : StandsFor old made.before = subst (λ (k : KeptInference). StandsFor k made.before) (sym c.self.view_is) made.was in (
      (
        written.0,
        record {
          before = made.before;
          inside = made.inside;
          written = made.written;
          was = claims_by laws old.l old.n made.before c.args.g.now (table_of old.claims) had was.claims;
        },
      ),
      λ b at. by_geometry c.args.g.now (accepted_some _ c.args.g.now (sym c.requires.known ∙ h.1)) (of_indirect (at.0) (at.1) (at.2)),
    )) (c.in_ok-move_claims.ensures.lost c.if-not-branch.true)

pub returns-then-not-branch-2-clause-lost : goal.returns-then-not-branch-2-clause-lost
returns-then-not-branch-2-clause-lost g c =
    let first = c.move_claims.ensures.keeps in
    loses_along first.blocks (λ b h. h) (λ h. h) (λ is w h.
    let written = h.0 in (
      first.stands w (written.0),
      λ b at. by_geometry c.args.g.now (accepted_some _ c.args.g.now (sym c.requires.known ∙ h.1)) at,
    )) (c.in_ok-move_free.ensures.lost c.if-not-branch-2.true)

pub returns-clause-stands : goal.returns-clause-stands
returns-clause-stands g c = λ v h.
    let marks = c.in_ok-move_free.ensures.marks c.if-not-branch-2.false in
    let laws : TableLaws = record { accepted = c.tables_of_volumes.ensures.accepted; refused = c.tables_of_volumes.ensures.refused; claims = c.tables_of_volumes.ensures.claims } in
    let old = kept_in c.self.inside in
    let known : c.self.inside.geometry ≡ Some c.args.g.now = ap (λ (k : KeptInference). k.geometry) c.self.view_is ∙ c.requires.known in
    let had : c.self.inside.claims.geometry ≡ Some c.args.g.now = c.self.invariant.same ∙ known in
    let free = with_items_is c.self.inside.free c.move_free.new.free (c.move_free.ensures.room ∙ ap length c.deref_mut.ensures.value ∙ sym (c.self.inside.free.ok.0)) in
    let w = slice_set v c.args.block c.args.bytes.now in
    let write = h.0 in
    let was : StandsFor old v = subst (λ (k : KeptInference). StandsFor k v) (sym c.self.view_is) write.was in
    let here : old.geometry ≡ accepted (geometry_on old.l old.n w) = subst (λ (k : KeptInference). k.geometry ≡ accepted (geometry_on k.l k.n w)) (sym c.self.view_is) (h.1) in
    let kept = kept_by laws old c.args.g.now v c.args.block c.args.bytes.now c.move_claims.new.claims c.move_kinds.new.kinds.entries c.move_free.new.free c.move_claims.new.watch
    known had (c.move_claims.ensures.geometry ∙ had) was here
    (c.in_ok-move_claims.ensures.claims c.if-not-branch.false (c.move_free.ensures.keeps.told write.tells) v write.inside write.stands)
    (c.in_ok-move_kinds.ensures.here w (this_block c.args.g.now.fsize v c.args.block c.args.bytes.now write.inside)) c.in_ok-move_kinds.ensures.others
    (rw c.deref_mut.ensures.value at (marks write.tells v write.inside (c.move_claims.ensures.keeps.stands w write.stands)))
    c.in_ok-move_claims.ensures.watched in
    subst (λ (ys : List Bool). Follows (shown old c.move_claims.new.claims c.move_kinds.new.kinds.entries old.pending ys) (Some c.move_claims.new.watch) w) (sym free) kept

pub returns-in_err-watch-clause-fetched : goal.returns-in_err-watch-clause-fetched
returns-in_err-watch-clause-fetched g c =
    let none = g.met.V.View.fetched_none c.args.view.now in
    record { middle = c.args.view.now; levels = places_none g.V.View.fetched _ c.args.view.now none; group = fetches_none g.V.View.fetched _ c.args.view.now none }

pub returns-in_err-move_claims-clause-fetched : goal.returns-in_err-move_claims-clause-fetched
returns-in_err-move_claims-clause-fetched g c =
    let laws : TableLaws = record { accepted = c.tables_of_volumes.ensures.accepted; refused = c.tables_of_volumes.ensures.refused; claims = c.tables_of_volumes.ensures.claims } in
    kept_fetched laws g.V.View (kept_in c.self.inside) c.args.self.now c.args.g.now c.args.block c.args.bytes.now c.args.view.now c.move_claims.new.view c.move_claims.new.view
    c.self.view_is c.self.invariant.same c.requires.known (λ told. told) c.move_claims.ensures.fetched (fetches_none g.V.View.fetched (IsGroupRest c.args.g.now c.args.block) c.move_claims.new.view (g.met.V.View.fetched_none c.move_claims.new.view))

pub returns-then-not-branch-clause-fetched : goal.returns-then-not-branch-clause-fetched
returns-then-not-branch-clause-fetched g c =
    let laws : TableLaws = record { accepted = c.tables_of_volumes.ensures.accepted; refused = c.tables_of_volumes.ensures.refused; claims = c.tables_of_volumes.ensures.claims } in
    kept_fetched laws g.V.View (kept_in c.self.inside) c.args.self.now c.args.g.now c.args.block c.args.bytes.now c.args.view.now c.move_claims.new.view c.move_claims.new.view
    c.self.view_is c.self.invariant.same c.requires.known (λ told. told) c.move_claims.ensures.fetched (fetches_none g.V.View.fetched (IsGroupRest c.args.g.now c.args.block) c.move_claims.new.view (g.met.V.View.fetched_none c.move_claims.new.view))

pub returns-in_err-move_kinds-clause-fetched : goal.returns-in_err-move_kinds-clause-fetched
returns-in_err-move_kinds-clause-fetched g c =
    let laws : TableLaws = record { accepted = c.tables_of_volumes.ensures.accepted; refused = c.tables_of_volumes.ensures.refused; claims = c.tables_of_volumes.ensures.claims } in
    kept_fetched laws g.V.View (kept_in c.self.inside) c.args.self.now c.args.g.now c.args.block c.args.bytes.now c.args.view.now c.move_claims.new.view c.move_claims.new.view
    c.self.view_is c.self.invariant.same c.requires.known (λ told. told) c.move_claims.ensures.fetched (fetches_none g.V.View.fetched (IsGroupRest c.args.g.now c.args.block) c.move_claims.new.view (g.met.V.View.fetched_none c.move_claims.new.view))

pub returns-in_err-move_free-clause-fetched : goal.returns-in_err-move_free-clause-fetched
returns-in_err-move_free-clause-fetched g c =
    let laws : TableLaws = record { accepted = c.tables_of_volumes.ensures.accepted; refused = c.tables_of_volumes.ensures.refused; claims = c.tables_of_volumes.ensures.claims } in
    kept_fetched laws g.V.View (kept_in c.self.inside) c.args.self.now c.args.g.now c.args.block c.args.bytes.now c.args.view.now c.move_claims.new.view c.move_free.new.view
    c.self.view_is c.self.invariant.same c.requires.known c.move_free.ensures.keeps.told c.move_claims.ensures.fetched c.move_free.ensures.fetched

pub returns-then-not-branch-2-clause-fetched : goal.returns-then-not-branch-2-clause-fetched
returns-then-not-branch-2-clause-fetched g c =
    let laws : TableLaws = record { accepted = c.tables_of_volumes.ensures.accepted; refused = c.tables_of_volumes.ensures.refused; claims = c.tables_of_volumes.ensures.claims } in
    kept_fetched laws g.V.View (kept_in c.self.inside) c.args.self.now c.args.g.now c.args.block c.args.bytes.now c.args.view.now c.move_claims.new.view c.move_free.new.view
    c.self.view_is c.self.invariant.same c.requires.known c.move_free.ensures.keeps.told c.move_claims.ensures.fetched c.move_free.ensures.fetched

pub returns-clause-fetched : goal.returns-clause-fetched
returns-clause-fetched g c =
    let laws : TableLaws = record { accepted = c.tables_of_volumes.ensures.accepted; refused = c.tables_of_volumes.ensures.refused; claims = c.tables_of_volumes.ensures.claims } in
    kept_fetched laws g.V.View (kept_in c.self.inside) c.args.self.now c.args.g.now c.args.block c.args.bytes.now c.args.view.now c.move_claims.new.view c.move_free.new.view
    c.self.view_is c.self.invariant.same c.requires.known c.move_free.ensures.keeps.told c.move_claims.ensures.fetched c.move_free.ensures.fetched
