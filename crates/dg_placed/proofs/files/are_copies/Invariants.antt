use Rattle.std.proofs.Common.{◌<◌, ℕ, get_or}
use Rattle.dg_model.specs.declared.homes.Home.{Home}
use Rattle.dg_placed.specs.Used.{IsCopy}
use Rattle.dg_placed.proofs.files.are_copies.Given as goal

abbrev pub invariant-loop-copy : goal.invariant-loop-copy
invariant-loop-copy l = (k : ℕ) (d : Home) → k < l.copy-index → IsCopy l.homes (get_or l.copies k d).inode (get_or l.copies k d).boundary
