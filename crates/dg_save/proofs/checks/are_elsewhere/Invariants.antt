use Rattle.std.proofs.Common.{ℕ, ◌<◌, get_or}
use Rattle.dg_model.specs.declared.homes.Home.{Home}
use Rattle.dg_save.specs.Checks.{IsElsewhere}
use Rattle.dg_save.proofs.checks.are_elsewhere.Given as goal

abbrev pub invariant-loop-copy : goal.invariant-loop-copy
invariant-loop-copy l = (k : ℕ) (d : Home) → k < l.copy-index → IsElsewhere l.homes (get_or l.copies k d)
