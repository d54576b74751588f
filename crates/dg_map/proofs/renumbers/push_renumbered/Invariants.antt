use Rattle.std.proofs.Common.{◌≡◌, ◌++◌, take}
use Rattle.dg_map.specs.Renumbers.{renumbered_sites}
use Rattle.dg_map.proofs.renumbers.push_renumbered.Given as goal

abbrev pub invariant-loop-site : goal.invariant-loop-site
invariant-loop-site l = l.pushed.items ≡ l.fn.pushed.items ++ renumbered_sites l.numbers (take l.site-index l.sites)
