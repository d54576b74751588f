use Rattle.std.proofs.Common.{◌≡◌, take}
use Rattle.dg_model.specs.Regroups.{homes_left}
use Rattle.dg_regroup.proofs.cut_overs.homes_left.Given as goal

abbrev pub invariant-loop-home : goal.invariant-loop-home
invariant-loop-home l = l.left.items ≡ homes_left l.places l.copies (take l.home-index l.home-items)
