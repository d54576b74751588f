use Rattle.std.proofs.Common.{◌≡◌, false, take}
use Rattle.dg_plan.specs.Targets.{wants_of}
use Rattle.dg_model.specs.Moves.{has_met}
use Rattle.dg_move.proofs.spares.has_met.Given as goal

abbrev pub invariant-loop-site : goal.invariant-loop-site
invariant-loop-site l = has_met (wants_of l.targets l.block) (take l.site-index l.sites) ≡ false
