use Rattle.std.proofs.Common.{◌∙◌, ℕ, List, ap}
use Rattle.ufs_model.specs.Inodes.{inode_of}
use Rattle.ufs_image_laws.specs.Built.{blocks_in, nodes_in}
use Rattle.ufs_image_laws.proofs.BuiltLaws.{are_volume}
use Rattle.ufs_image_laws.proofs.InodeReads.{inode_none}
use Rattle.ufs_image_laws.proofs.inodes.other_inodes_are_unallocated.Goals as goal

pub returns : goal.returns
returns c = λ spec items image is i low away.
    ap (λ (bytes : List ℕ). (inode_of is.g i (blocks_in is.g.fsize is.g.size bytes)).value) is.bytes
    ∙ inode_none is.g (nodes_in is) is.all i (are_volume spec items image is) low away
