use Rattle.std.proofs.Common.{◌≡◌, ◌∙◌, ◌<◌, ℕ, List, [], ◌∷◌, ◌++◌, get_or, length, map, take, sym, ap, arith}
use Rattle.std.proofs.lemmas.List.{take_all}
use Rattle.dg_model.specs.Lives.{boundary_at}
use Rattle.dg_volume.proofs.LeftLists.{map_more}
use Rattle.dg_volume.proofs.left_lists.numbers_at.Goals as goal

pub loop-at-preserved : goal.loop-at-preserved
loop-at-preserved c =
    let live = c.args.in_use.now.live.items in
    let xs = c.args.places.now in
    let within : c.loop-at.at < length xs = omega (arith, c.loop-at-test.true) in
    let value : c.number.result ≡ boundary_at live (get_or xs c.loop-at.at 0) = c.number.ensures in
    c.in-Ok.ensures.items
    ∙ ap (λ (ys : List ℕ). ys ++ c.number.result ∷ []) c.loop-at.invariant
    ∙ ap (λ (y : ℕ). map (boundary_at live) (take c.loop-at.at xs) ++ y ∷ []) value
    ∙ sym (map_more (boundary_at live) xs c.loop-at.at within)

pub returns : goal.returns
returns c =
    c.loop-at.invariant ∙ ap (map (boundary_at c.args.in_use.now.live.items)) (take_all c.loop-at.at c.args.places.now (omega arith))
