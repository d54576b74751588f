-- Fragments, each at a level, as they are kept.
use Rattle.std.specs.Prelude.{List, Bool, Option}
use Rattle.std.specs.BTreeMap.{is_at}
use Rattle.std.specs.Map.{lookup}
use Rattle.dg_infer.specs.contracts.seen.SpotOrd.TheImpl as order
use Rattle.dg_infer.specs.declared.seen.Spot.{Spot}

-- what is kept at a spot
abbrev pub spot_at : List (Spot × Bool) → Spot → Option Bool
spot_at entries spot = lookup (is_at (order.cmp-value.it spot)) entries
