use Rattle.std.proofs.Common.{◌≡◌, ◌++◌, take}
use Rattle.std.specs.Prelude.{flat_map}
use Rattle.dg_model.specs.Saves.{home_bytes}
use Rattle.dg_save.proofs.encodes.push_each_home.Given as goal

abbrev pub invariant-loop-home : goal.invariant-loop-home
invariant-loop-home l = l.bytes.items ≡ l.fn.bytes.items ++ flat_map home_bytes (take l.home-index l.homes)
