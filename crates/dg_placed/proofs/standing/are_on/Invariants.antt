use Rattle.std.proofs.Common.{◌≡◌, take}
use Rattle.dg_model.specs.Tables.{count_on}
use Rattle.dg_placed.proofs.standing.are_on.Given as goal

abbrev pub invariant-loop-site : goal.invariant-loop-site
invariant-loop-site l = count_on l.boundary (take l.site-index l.sites) ≡ 0
