use Rattle.std.proofs.Common.{◌≡◌, ◌∙◌, ℕ, List, false, length, map, ap, refl, subst}
use Rattle.std.proofs.lemmas.List.{length-replicate}
use Rattle.dg_io.specs.Reduced.{places_left}
use Rattle.dg_model.specs.Lives.{boundary_at}
use Rattle.dg_model.specs.declared.shapes.Shape.{Shape}
use Rattle.dg_regroup.specs.Cuts.{IsTooFew}
use Rattle.dg_store.specs.Reduced.{left_in}
use Rattle.dg_store.specs.Stores.{lost_bits, members_of, shape_of}
use Rattle.dg_volume.proofs.RegroupSteps.{not_few, remains_made}
use Rattle.dg_volume.proofs.regroups.remains_of.Goals as goal

pub returns-in_default-clause-few : goal.returns-in_default-clause-few
returns-in_default-clause-few g c =
    let store = c.args.store.now in
    let shape = c.shape-shape.ensures in
    let places : places_left c.lost.result c.shape-shape.result.now.b ≡ left_in store =
    ap (λ (n : ℕ). places_left n c.shape-shape.result.now.b) c.lost.ensures ∙ ap (λ (s : Shape). places_left (lost_bits (members_of store) (shape_of store).b) s.b) shape ∙ c.bits_leave_the_live.ensures in
    subst (λ (s : Shape). IsTooFew (left_in store) s) shape (subst (λ (xs : List ℕ). IsTooFew xs c.shape-shape.result.now) places (c.in_ok-over.ensures.few.0 c.in_default.is))

pub returns-clause-left : goal.returns-clause-left
returns-clause-left g c =
    let store = c.args.store.now in
    let places : places_left c.lost.result c.shape-shape.result.now.b ≡ left_in store =
    ap (λ (n : ℕ). places_left n c.shape-shape.result.now.b) c.lost.ensures ∙ ap (λ (s : Shape). places_left (lost_bits (members_of store) (shape_of store).b) s.b) c.shape-shape.ensures ∙ c.bits_leave_the_live.ensures in
    remains_made store c.args.homes.now c.args.copies.now c.args.in_use.now.live.items (places_left c.lost.result c.shape-shape.result.now.b) c.shape-shape.result.now c.map.result.now c.in-Some.over _
    c.shape-shape.ensures c.map.ensures places (not_few _ c.in-Some.over _ c.in-Some.is (c.in_ok-over.ensures.few.1)) (rw c.in-Some.is at c.in_ok-over.ensures.left) refl refl
    (c.in_ok-live.ensures ∙ ap (map (boundary_at c.args.in_use.now.live.items)) (c.deref.ensures.value ∙ c.in_ok-places.ensures)) c.in_ok-blank.ensures.size (ap length c.in_ok-blank.ensures.pending ∙ length-replicate c.shape-shape.result.now.n false)
