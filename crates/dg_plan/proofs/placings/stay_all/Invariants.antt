use Rattle.dg_plan.proofs.StayLaws.{IsStaying}
use Rattle.dg_plan.proofs.placings.stay_all.Given as goal

abbrev pub invariant-loop-home : goal.invariant-loop-home
invariant-loop-home l = IsStaying l.files l.directories l.fn.rooms.items l.homes l.home-index l.placing
