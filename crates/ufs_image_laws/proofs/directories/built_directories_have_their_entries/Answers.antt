use Rattle.std.proofs.Common.{◌≡◌, ◌∙◌, ℕ, suc, ◌+◌, ◌<◌, ◌^◌, Some, ap, sym, subst, length, arith}
use Rattle.std.specs.Prelude.{Ok}
use Rattle.ufs_build.specs.Directories.{directory_bytes, directory_entries}
use Rattle.ufs_model.specs.Inodes.{inode_of}
use Rattle.ufs_image_laws.specs.Built.{blocks_in}
use Rattle.ufs_image_laws.proofs.DirectoryLaws.{item_entries, root_entries}
use Rattle.ufs_image_laws.proofs.directories.built_directories_have_their_entries.Goals as goal

pub returns : goal.returns
returns c = record {
  root = λ spec items image is inode small here. root_entries spec items image is inode small here;
  items = λ spec items image is k item parent inode e dir f small here.
      let turn : k + 3 ≡ 3 + k = omega arith in
      let next : k + 3 ≡ 2 + suc k = omega arith in
      item_entries spec items image is k item parent inode e dir f
      (subst (λ (n : ℕ). length (directory_bytes is.g.endian items is.parents n parent) < 2 ^ 32) turn small)
      (subst (λ (n : ℕ). (inode_of is.g n (blocks_in is.g.fsize is.g.size image)).value ≡ Some inode) next here)
      ∙ ap (λ (n : ℕ). Ok (directory_entries items is.parents n parent)) (sym turn);
}
