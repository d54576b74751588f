use Rattle.std.proofs.Common.{◌≡◌, map, take}
use Rattle.dg_model.specs.Lives.{boundary_at}
use Rattle.dg_volume.proofs.left_lists.numbers_at.Given as goal

abbrev pub invariant-loop-at : goal.invariant-loop-at
invariant-loop-at l = l.numbers.items ≡ map (boundary_at l.in_use.live.items) (take l.at l.places)
