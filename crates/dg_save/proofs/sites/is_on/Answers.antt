use Rattle.dg_save.proofs.SiteLemmas.{on_all}
use Rattle.dg_save.proofs.sites.is_on.Goals as goal

pub returns : goal.returns
returns c = on_all _ _ _ c.loop-site-test.false c.loop-site.invariant
