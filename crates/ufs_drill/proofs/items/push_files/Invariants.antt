use Rattle.std.proofs.Common.{◌≡◌, ◌++◌, map}
use Rattle.std.specs.List.{range_with_len}
use Rattle.ufs_drill.specs.Items.{file_item, generator_after}
use Rattle.ufs_drill.proofs.items.push_files.Given as goal

abbrev pub invariant-loop-k : goal.invariant-loop-k
invariant-loop-k l = record {
  sizes : l.sizes ≡ generator_after l.seed l.k;
  items : l.items.items ≡ l.fn.items.items ++ map (file_item l.seed) (range_with_len 0 l.k);
}
