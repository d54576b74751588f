use Rattle.std.proofs.Common.{◌≡◌, ◌∙◌, ℕ, suc, ◌+◌, Some, ap, arith}
use Rattle.std.specs.Prelude.{replicate, false, slice_get}
use Rattle.ufs_build.specs.Directories.{directory_bytes}
use Rattle.ufs_build.specs.Nodes.{node_of}
use Rattle.ufs_image_laws.specs.Built.{nodes_in}
use Rattle.ufs_image_laws.proofs.BuiltLaws.{are_volume}
use Rattle.ufs_image_laws.proofs.ItemLaws.{count_of_files, file_of_item, file_of_root, good_items}
use Rattle.ufs_image_laws.proofs.PlacingLaws.{count_placed}
use Rattle.ufs_image_laws.proofs.inodes.files_of_items.Goals as goal

pub returns : goal.returns
returns c = record {
  root = λ spec items image is. file_of_root is.g.endian items is.parents;
  item = λ spec items image is k item parent e f.
      ap (slice_get (nodes_in is)) (let z : k + 1 ≡ suc k = omega arith in z) ∙ file_of_item is.g.endian items is.parents k item parent e f
      ∙ ap (λ (n : ℕ). Some (node_of item (directory_bytes is.g.endian items is.parents n parent))) (let z : 3 + k ≡ k + 3 = omega arith in z);
  parents = λ spec items image is. let good = good_items items is.parents is.stand in good.count;
  count = λ spec items image is. let good = good_items items is.parents is.stand in count_of_files is.g.endian items is.parents good.count;
  addresses = λ spec items image is. let volume = are_volume spec items image is in
      count_placed is.g (nodes_in is) is.all.files (replicate is.g.size false) is.all.used volume.placed;
}
