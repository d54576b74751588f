use Rattle.std.proofs.Common.{◌∙◌, ℕ, List, ap}
use Rattle.ufs_model.specs.Pointers.{file_block_of}
use Rattle.ufs_image_laws.specs.Built.{blocks_in, nodes_in}
use Rattle.ufs_image_laws.proofs.AddressReads.{block_found}
use Rattle.ufs_image_laws.proofs.ContentReads.{hole_is, hole_none}
use Rattle.ufs_image_laws.proofs.FileLaws.{file_of, inode_is}
use Rattle.ufs_image_laws.proofs.files.built_blocks_are_found.Goals as goal

pub returns : goal.returns
returns c = record {
  found = λ spec items image is k node addresses inode n e f outside small here low.
      let own = inode_is spec items image is k node addresses inode e f outside here in
      ap (λ (bytes : List ℕ). (file_block_of is.g inode n (blocks_in is.g.fsize is.g.size bytes)).value) is.bytes
      ∙ block_found is.g (nodes_in is) is.all k node addresses inode n (file_of spec items image is k node addresses e f) own.slots low small;
  holes = λ spec items image is k node addresses n e f low. (
    hole_is is.g (nodes_in is) is.all k node addresses n (file_of spec items image is k node addresses e f) low,
    hole_none is.g (nodes_in is) is.all k node addresses n (file_of spec items image is k node addresses e f),
  );
}
