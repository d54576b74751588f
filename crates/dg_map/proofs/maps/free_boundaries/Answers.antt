use Rattle.std.proofs.Common.{arith}
use Rattle.std.proofs.lemmas.List.{length_push}
use Rattle.std.proofs.lemmas.List.Elements.{All-push}
use Rattle.dg_map.specs.Slots.{IsUnused}
use Rattle.dg_map.proofs.maps.free_boundaries.Goals as goal

pub loop-preserved : goal.loop-preserved
loop-preserved c =
    rw c.in-Ok.ensures.items
    (omega (arith, length_push c.loop.boundaries.items c.in_ok-slots.slots), All-push (IsUnused c.args.most) c.loop.boundaries.items c.in_ok-slots.slots c.loop.invariant.1 c.in_ok-slots.ensures)
