use Rattle.std.proofs.Common.{◌≡◌, ◌<◌, ◌+◌, ◌%◌, ℕ, ap, ◌∙◌, arith}
use Rattle.dg_plan.proofs.MarkLaws.{marking_step}
use Rattle.dg_plan.proofs.marks.mark_of_places.Goals as goal

pub loop-place-preserved : goal.loop-place-preserved
loop-place-preserved c =
    let s = c.args.shape.now in
    let k = c.loop-place.place in
    let t = (c.args.block + c.from.result) % c.from-in-loop-place.result in
    let at : t ≡ (c.args.block + k) % s.b = ap (λ (f : ℕ). (c.args.block + f) % c.from-in-loop-place.result) c.from.ensures ∙ ap (λ (m : ℕ). (c.args.block + k) % m) c.from-in-loop-place.ensures in
    let low : t < 16 = let most = c.requires.shape.most_boundaries in let least = c.requires.shape.least_boundaries in omega (arith, at, most, least) in
    marking_step s c.args.block k c.loop-place.mark t c.loop-place-test.true low at c.loop-place.invariant
