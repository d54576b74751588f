use Rattle.std.proofs.Common.{}
use Rattle.dg_map.proofs.ListLemmas.{spread_by}
use Rattle.dg_map.proofs.site_lists.SiteLists.first_spread.Goals as goal

pub returns : goal.returns
returns c = spread_by c.args.self.now c.least.result c.requires c.least.ensures
