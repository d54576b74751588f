use Rattle.std.proofs.Common.{◌≡◌, [], take}
use Rattle.dg_plan.specs.Targets.{wants_of}
use Rattle.dg_model.specs.Moves.{off_target}
use Rattle.dg_move.proofs.spares.first_off_target.Given as goal

abbrev pub invariant-loop-site : goal.invariant-loop-site
invariant-loop-site l = off_target (wants_of l.targets l.block) (take l.site-index l.sites) ≡ []
