use Rattle.std.proofs.Common.{◌≡◌, [], take, drop}
use Rattle.std.specs.List.{All}
use Rattle.ufs_build.specs.Items.{HasShortName, HasSlash, parents_after}
use Rattle.ufs_build.proofs.ParentLaws.{all_before}
use Rattle.ufs_build.proofs.parents.parents_of.Given as goal

abbrev pub invariant-loop-k : goal.invariant-loop-k
invariant-loop-k l = record {
  found : all_before l.parents.items (parents_after (take l.k l.items) (drop l.k l.items)) ≡ parents_after [] l.items;
  names : All HasShortName (take l.k l.items);
  slashes : All HasSlash (take l.k l.items);
}
