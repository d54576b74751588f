use Rattle.std.proofs.Common.{◌≡◌, Some}
use Rattle.ufs_build.specs.Placements.{with_blocks_below}
use Rattle.ufs_build.specs.Placings.{file_of, placed_in}
use Rattle.ufs_build.specs.Spaces.{IsSearched}
use Rattle.ufs_build.proofs.placings.place_file.Given as goal

abbrev pub invariant-loop-n : goal.invariant-loop-n
invariant-loop-n l = record {
  placed : with_blocks_below l.g (file_of l.node) l.n (placed_in l.initial.space l.initial.addresses) ≡ Some (placed_in l.space l.addresses);
  searched : IsSearched l.g l.space.used.items l.space.searched.items;
}
