use Rattle.dg_model.specs.Saves.{site_bytes}
use Rattle.dg_save.specs.Parts.{AreRead, FitsSite}
use Rattle.dg_save.proofs.parts.read_sites.Given as goal

abbrev pub invariant-loop-site : goal.invariant-loop-site
invariant-loop-site l = AreRead FitsSite site_bytes l.fn.reader l.reader l.site l.sites.items
