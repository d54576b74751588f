use Rattle.std.proofs.Common.{◌≡◌}
use Rattle.std.specs.Prelude.{slice_get}
use Rattle.std.specs.Map.{keys_of}
use Rattle.dg_hot.proofs.hot.key_at.Given as goal

abbrev pub invariant-loop-inode : goal.invariant-loop-inode
invariant-loop-inode l = slice_get (keys_of l.inode-iterator) l.left ≡ slice_get (keys_of l.cache.entries) l.place
