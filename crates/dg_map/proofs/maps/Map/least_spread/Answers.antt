use Rattle.std.proofs.Common.{}
use Rattle.dg_map.proofs.MapLemmas.{spread_of}
use Rattle.dg_map.proofs.maps.Map.least_spread.Goals as goal

pub returns-clause-spread : goal.returns-clause-spread
returns-clause-spread c = spread_of c.self.inside c.self.invariant c.args.self.now c.self.view_is c.first_spread.result c.first_spread.ensures
