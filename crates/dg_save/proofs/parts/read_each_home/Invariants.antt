use Rattle.dg_model.specs.Saves.{home_bytes}
use Rattle.dg_save.specs.Parts.{AreRead, FitsHome}
use Rattle.dg_save.proofs.parts.read_each_home.Given as goal

abbrev pub invariant-loop-home : goal.invariant-loop-home
invariant-loop-home l = AreRead FitsHome home_bytes l.fn.reader l.reader l.home l.homes.items
