use Rattle.std.proofs.Common.{◌≡◌, drop, length}
use Rattle.ufs_build.specs.Placements.{with_files}
use Rattle.ufs_build.specs.Placings.{all_in, files_of}
use Rattle.ufs_build.specs.Spaces.{IsSearched}
use Rattle.ufs_build.proofs.placings.place_files.Given as goal

abbrev pub invariant-loop-k : goal.invariant-loop-k
invariant-loop-k l = record {
  placed : with_files l.g (files_of (drop l.k l.nodes)) (all_in l.space l.files.items) ≡ with_files l.g (files_of l.nodes) (all_in l.initial.space l.initial.files.items);
  searched : IsSearched l.g l.space.used.items l.space.searched.items;
  each : length l.files.items ≡ l.k;
}
