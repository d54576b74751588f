use Rattle.std.proofs.Common.{◌∙◌}
use Rattle.dg_map.proofs.MapLemmas.{row_in}
use Rattle.dg_map.proofs.maps.Map.sites.Goals as goal

pub returns-clause-sites : goal.returns-clause-sites
returns-clause-sites c = c.of.ensures ∙ row_in c.self.inside c.self.invariant c.args.self.now c.self.view_is c.args.block c.requires
