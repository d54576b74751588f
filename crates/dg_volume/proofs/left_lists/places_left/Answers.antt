use Rattle.std.proofs.Common.{◌≡◌, ◌∙◌, ℕ, List, [], ◌∷◌, ◌++◌, filter, not, sym, ap, arith, if◌then◌else◌}
use Rattle.std.specs.List.{range_with_len}
use Rattle.dg_model.specs.Members.{is_lost}
use Rattle.dg_model.specs.declared.shapes.Shape.{Shape}
use Rattle.dg_store.specs.Stores.{members_of, shape_of}
use Rattle.dg_volume.proofs.LeftLists.{filter_more}
use Rattle.dg_volume.proofs.left_lists.places_left.Goals as goal

pub loop-place-preserved : goal.loop-place-preserved
loop-place-preserved g c =
    let stays = λ (x : ℕ). not (is_lost (members_of c.args.store.now) x) in
    c.in_ok-push_left.ensures
    ∙ ap (λ (xs : List ℕ). xs ++ (if stays c.loop-place.place then c.loop-place.place ∷ [] else [])) c.loop-place.invariant
    ∙ sym (filter_more (λ x. not (is_lost (members_of c.args.store.now) x)) c.loop-place.place)

pub returns : goal.returns
returns g c =
    let b = ap (λ (sh : Shape). sh.b) c.shape.ensures in
    let all : c.loop-place.place ≡ (shape_of c.args.store.now).b = omega (arith, b) in
    c.loop-place.invariant ∙ ap (λ (n : ℕ). filter (λ x. not (is_lost (members_of c.args.store.now) x)) (range_with_len 0 n)) all
