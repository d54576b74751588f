use Rattle.std.proofs.Common.{ℕ, ◌+◌, List, sym, subst}
use Rattle.ufs_model.specs.Inodes.{inode_of}
use Rattle.ufs_image_laws.specs.Built.{blocks_in, nodes_in}
use Rattle.ufs_image_laws.specs.Inodes.{IsInodeOf}
use Rattle.ufs_image_laws.proofs.BuiltLaws.{are_volume, at_place, built_numbers}
use Rattle.ufs_image_laws.proofs.InodeReads.{inode_read}
use Rattle.ufs_image_laws.proofs.ItemLaws.{HasNumbers}
use Rattle.ufs_image_laws.proofs.SuperLaws.{geometry_of_built}
use Rattle.ufs_image_laws.proofs.inodes.built_inodes_are_read.Goals as goal

pub returns : goal.returns
returns c = λ spec items image is k node addresses e f.
    let geometry = geometry_of_built spec is.g is.geometry in
    let numbers = at_place HasNumbers (nodes_in is) k node (built_numbers spec items image is) e in
    subst (λ (bytes : List ℕ). IsInodeOf node addresses ((inode_of is.g (2 + k) (blocks_in is.g.fsize is.g.size bytes)).value)) (sym is.bytes)
    (inode_read is.g (nodes_in is) is.all k node addresses geometry.numbers (are_volume spec items image is) e f numbers.some numbers.mode numbers.size)
