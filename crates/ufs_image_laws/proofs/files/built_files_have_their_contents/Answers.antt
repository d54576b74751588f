use Rattle.std.proofs.Common.{◌≡◌, ℕ, suc, ◌+◌, Some, subst, arith}
use Rattle.ufs_model.specs.Inodes.{inode_of}
use Rattle.ufs_image_laws.specs.Built.{blocks_in}
use Rattle.ufs_image_laws.proofs.FileLaws.{item_contents}
use Rattle.ufs_image_laws.proofs.files.built_files_have_their_contents.Goals as goal

pub returns : goal.returns
returns c = λ spec items image is k item inode e file here.
    item_contents spec items image is k item inode e file
    (subst (λ (i : ℕ). (inode_of is.g i (blocks_in is.g.fsize is.g.size image)).value ≡ Some inode) (let z : k + 3 ≡ 2 + suc k = omega arith in z) here)
