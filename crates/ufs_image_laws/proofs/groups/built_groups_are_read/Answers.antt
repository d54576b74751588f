use Rattle.std.proofs.Common.{◌∙◌, ℕ, List, ap}
use Rattle.ufs_model.specs.GroupMaps.{group_bytes, group_in, is_marked_free, is_marked_unused}
use Rattle.ufs_image_laws.specs.Built.{blocks_in, nodes_in}
use Rattle.ufs_image_laws.proofs.BuiltLaws.{are_volume}
use Rattle.ufs_image_laws.proofs.GroupReads.{free_read, group_read, unused_read}
use Rattle.ufs_image_laws.proofs.SuperLaws.{geometry_of_built}
use Rattle.ufs_image_laws.proofs.groups.built_groups_are_read.Goals as goal

pub returns : goal.returns
returns c = record {
  groups = λ spec items image is n low. let geometry = geometry_of_built spec is.g is.geometry in
      ap (λ (bytes : List ℕ). group_in is.g n ((group_bytes is.g n (blocks_in is.g.fsize is.g.size bytes)).value)) is.bytes
      ∙ group_read is.g (nodes_in is) is.all n geometry.numbers geometry.cgsize (are_volume spec items image is) low;
  inodes = λ spec items image is i low. let geometry = geometry_of_built spec is.g is.geometry in
      ap (λ (bytes : List ℕ). (is_marked_unused is.g i (blocks_in is.g.fsize is.g.size bytes)).value) is.bytes
      ∙ unused_read is.g (nodes_in is) is.all i geometry.numbers geometry.cgsize (are_volume spec items image is) low;
  fragments = λ spec items image is f low. let geometry = geometry_of_built spec is.g is.geometry in
      ap (λ (bytes : List ℕ). (is_marked_free is.g f (blocks_in is.g.fsize is.g.size bytes)).value) is.bytes
      ∙ free_read is.g (nodes_in is) is.all f geometry.numbers geometry.cgsize (are_volume spec items image is) low;
}
