use Rattle.std.proofs.Common.{◌≡◌, ◌<◌, ◌^◌, ◌++◌}
use Rattle.std.specs.List.{All}
use Rattle.std.specs.Map.{keys_of}
use Rattle.dg_hot.proofs.hot.keys.Given as goal

abbrev pub invariant-loop-inode : goal.invariant-loop-inode
invariant-loop-inode l = record {
  same : l.keys.items ++ keys_of l.inode-iterator ≡ keys_of l.cache.entries;
  fit : All (λ i. i < 2 ^ 32) l.keys.items;
}
