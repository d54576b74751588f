use Rattle.std.proofs.Common.{◌≡◌, ◌∙◌, List, Option, Some, None, refl, sym, ap, subst}
use Rattle.std.proofs.lemmas.Bool.{false≢true}
use Rattle.std.specs.Prelude.{slice_set}
use Rattle.ufs_model.specs.Blocks.{block_at}
use Rattle.ufs_model.specs.Metadata.{by_geometry}
use Rattle.ufs_model.specs.declared.geometries.Geometry.{Geometry}
use Rattle.ufs_pointer.specs.KindLaws.{loses_along}
use Rattle.dg_claims.specs.Kept.{table_of}
use Rattle.dg_infer.proofs.BoundLaws.{following_anew}
use Rattle.dg_infer.proofs.TargetLaws.{this_block}
use Rattle.dg_infer.proofs.VolumeLaws.{accepted_some, length_mark}
use Rattle.dg_infer.proofs.WriteLaws.{TableLaws, follows_anew, shown_is}
use Rattle.dg_infer.specs.Bounds.{FetchesKept, dropped, kept}
use Rattle.dg_infer.specs.Places.{IsClaimedBehind}
use Rattle.dg_infer.specs.Meanings.{KeptInference}
use Rattle.dg_infer.specs.Moves.{Follows}
use Rattle.dg_infer.specs.declared.watches.Touch.{Touch}
use Rattle.dg_infer.proofs.inferences.Inference.follow.Goals as goal

pub returns-in_default-clause-stands : goal.returns-in_default-clause-stands
returns-in_default-clause-stands g c = λ v h.
    let laws : TableLaws = record { accepted = c.tables_of_volumes.ensures.accepted; refused = c.tables_of_volumes.ensures.refused; claims = c.tables_of_volumes.ensures.claims } in
    let w = slice_set v c.args.block c.args.bytes.now in
    let shown = shown_is c.renew.new.self c.args.self.now.l c.args.self.now.n None c.in_ok-parts.parts.claims c.in_ok-parts.parts.kinds.entries c.in_ok-parts.parts.free.items
    (c.renew.ensures.size.0) (c.renew.ensures.size.1) c.renew.ensures.geometry c.renew.ensures.claims c.renew.ensures.kinds c.renew.ensures.free in
    subst (λ (o : Option (List Touch)). Follows c.renew.new.self o w) (sym c.renew.ensures.moved)
    (follows_anew laws c.renew.new.self c.args.self.now.l c.args.self.now.n w None c.in_ok-parts.parts.claims c.in_ok-parts.parts.kinds.entries c.in_ok-parts.parts.free.items shown
    (length_mark v c.args.block c.args.bytes.now ∙ (h.0).was.number) (sym c.in_default.is ∙ h.1) c.in_ok-parts.ensures.geometry (c.in_ok-parts.ensures.parts w))

pub returns-then-is_same-clause-fetched : goal.returns-then-is_same-clause-fetched
returns-then-is_same-clause-fetched g c =
    let view = g.V.View in
    let kept_now = c.args.self.now in
    let same : kept_now.geometry ≡ c.args.geometry = ap (λ (k : KeptInference). k.geometry) (sym c.self.view_is) ∙ c.is_same.ensures.0 c.if-is_same.true in
    kept same
    (subst (λ (o : Option Geometry). FetchesKept view.fetched kept_now.geometry c.args.block (table_of kept_now.claims).claimed (IsClaimedBehind view c.args.view.now c.keep.new.view kept_now o c.args.block c.args.bytes.now)
    c.args.view.now c.keep.new.view) same c.keep.ensures.fetched)

pub returns-in_err-parts-clause-fetched : goal.returns-in_err-parts-clause-fetched
returns-in_err-parts-clause-fetched g c =
    let apart : c.args.self.now.geometry ≡ c.args.geometry → ⊥ = λ e. false≢true (sym c.if-is_same.false ∙ c.is_same.ensures.1 (ap (λ (k : KeptInference). k.geometry) c.self.view_is ∙ e)) in
    dropped apart c.in_default.is (g.met.V.View.fetched_none c.args.view.now)

pub returns-in_default-clause-fetched : goal.returns-in_default-clause-fetched
returns-in_default-clause-fetched g c =
    let apart : c.args.self.now.geometry ≡ c.args.geometry → ⊥ = λ e. false≢true (sym c.if-is_same.false ∙ c.is_same.ensures.1 (ap (λ (k : KeptInference). k.geometry) c.self.view_is ∙ e)) in
    dropped apart c.in_default.is (g.met.V.View.fetched_none c.args.view.now)

pub returns-in-None-clause-lost : goal.returns-in-None-clause-lost
returns-in-None-clause-lost g c =
    loses_along refl (λ b h. h) (λ h. h) (λ is w h.
    let written = h.0 in
    let made = written.1 in (
      (written.0, subst (λ x. c.args.bytes.now ≡ block_at (g.V.View.size c.args.view.now) x c.args.block) (sym made.written) (this_block (g.V.View.size c.args.view.now) made.before c.args.block c.args.bytes.now made.inside)),
      λ b at. by_geometry c.in-Some.g (accepted_some _ c.in-Some.g (sym c.in-Some.is ∙ h.1)) at,
    )) (rw c.in-None.is at c.in_ok-parts-2.ensures.lost)

pub returns-in-Some-2-clause-stands : goal.returns-in-Some-2-clause-stands
returns-in-Some-2-clause-stands g c = λ v h.
    let laws : TableLaws = record { accepted = c.tables_of_volumes.ensures.accepted; refused = c.tables_of_volumes.ensures.refused; claims = c.tables_of_volumes.ensures.claims } in
    let w = slice_set v c.args.block c.args.bytes.now in
    let read = rw c.in-Some-2.is at c.in_ok-parts-2.ensures.parts in
    let has = rw c.in-Some-2.is at c.in_ok-parts-2.ensures.geometry in
    let new = c.renew-in-Some-2.new.self in
    let shown = shown_is new c.args.self.now.l c.args.self.now.n (Some c.in-Some.g) c.in-Some-2.parts.claims c.in-Some-2.parts.kinds.entries c.in-Some-2.parts.free.items
    (c.renew-in-Some-2.ensures.size.0) (c.renew-in-Some-2.ensures.size.1) c.renew-in-Some-2.ensures.geometry c.renew-in-Some-2.ensures.claims c.renew-in-Some-2.ensures.kinds
    c.renew-in-Some-2.ensures.free in
    subst (λ (o : Option (List Touch)). Follows new o w) (sym c.renew-in-Some-2.ensures.moved)
    (follows_anew laws new c.args.self.now.l c.args.self.now.n w (Some c.in-Some.g) c.in-Some-2.parts.claims c.in-Some-2.parts.kinds.entries c.in-Some-2.parts.free.items shown
    (length_mark v c.args.block c.args.bytes.now ∙ (h.0).was.number) (sym c.in-Some.is ∙ h.1) has
    (read (h.0).tells w (h.0).stands (this_block (g.V.View.size c.args.view.now) v c.args.block c.args.bytes.now (h.0).inside)))

pub returns-in_err-parts-2-clause-fetched : goal.returns-in_err-parts-2-clause-fetched
returns-in_err-parts-2-clause-fetched g c =
    let apart : c.args.self.now.geometry ≡ c.args.geometry → ⊥ = λ e. false≢true (sym c.if-is_same.false ∙ c.is_same.ensures.1 (ap (λ (k : KeptInference). k.geometry) c.self.view_is ∙ e)) in
    following_anew g.V.View c.args.self.now c.in-Some.g c.args.geometry c.args.block c.args.bytes.now c.args.view.now c.read_parts.new.view apart c.in-Some.is c.read_parts.ensures.fetched

pub returns-in-None-clause-fetched : goal.returns-in-None-clause-fetched
returns-in-None-clause-fetched g c =
    let apart : c.args.self.now.geometry ≡ c.args.geometry → ⊥ = λ e. false≢true (sym c.if-is_same.false ∙ c.is_same.ensures.1 (ap (λ (k : KeptInference). k.geometry) c.self.view_is ∙ e)) in
    following_anew g.V.View c.args.self.now c.in-Some.g c.args.geometry c.args.block c.args.bytes.now c.args.view.now c.read_parts.new.view apart c.in-Some.is c.read_parts.ensures.fetched

pub returns-in-Some-2-clause-fetched : goal.returns-in-Some-2-clause-fetched
returns-in-Some-2-clause-fetched g c =
    let apart : c.args.self.now.geometry ≡ c.args.geometry → ⊥ = λ e. false≢true (sym c.if-is_same.false ∙ c.is_same.ensures.1 (ap (λ (k : KeptInference). k.geometry) c.self.view_is ∙ e)) in
    following_anew g.V.View c.args.self.now c.in-Some.g c.args.geometry c.args.block c.args.bytes.now c.args.view.now c.read_parts.new.view apart c.in-Some.is c.read_parts.ensures.fetched
