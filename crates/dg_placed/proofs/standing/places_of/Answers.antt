use Rattle.std.proofs.Common.{arith}
use Rattle.dg_placed.proofs.StandLaws.{places_first}
use Rattle.dg_placed.proofs.standing.places_of.Goals as goal

pub returns : goal.returns
returns c =
    let shape = c.args.shape.now in
    let kept = c.loop-place.invariant in
    let few = c.requires.shape.most_places in
    let most = c.requires.shape.most_boundaries in
    places_first c.args.block shape.m shape.b c.loop-place.places c.loop-place.place c.loop-place-test.false (omega (arith, kept.0, few, most)) kept.1
