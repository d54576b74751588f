use Rattle.std.proofs.Common.{◌≡◌, ◌++◌, take}
use Rattle.std.specs.Prelude.{flat_map}
use Rattle.dg_model.specs.Saves.{site_bytes}
use Rattle.dg_save.proofs.encodes.push_sites.Given as goal

abbrev pub invariant-loop-site : goal.invariant-loop-site
invariant-loop-site l = l.bytes.items ≡ l.fn.bytes.items ++ flat_map site_bytes (take l.site-index l.sites)
