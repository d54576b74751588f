use Rattle.std.proofs.Common.{◌≡◌, ◌<◌, length}
use Rattle.dg_model.specs.Plans.{roomiest_of}
use Rattle.dg_plan.proofs.strays.roomiest.Given as goal

abbrev pub invariant-loop-s : goal.invariant-loop-s
invariant-loop-s l = record { best : l.best ≡ roomiest_of l.rooms.items l.s; within : l.best < length l.rooms.items }
