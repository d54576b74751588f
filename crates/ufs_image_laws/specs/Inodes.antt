-- An inode of a file that was built.
use Rattle.std.specs.Prelude.{◌≡◌, ◌<◌, ℕ, false, length, Option, Some}
use Rattle.ufs_model.specs.Inodes.{slot_of}
use Rattle.ufs_model.specs.declared.inodes.Inode.{Inode}
use Rattle.ufs_build.specs.Images.{slot_address}
use Rattle.ufs_build.specs.Nodes.{Node}
use Rattle.ufs_build.specs.Placements.{Addresses}

-- It is there, with the mode and the size of a file, and with its addresses in its slots, unless the file's bytes stand there.
pub record IsInodeOf (node : Node) (addresses : Addresses) (found : Option Inode) : Type 0 where
  pub inode : Inode
  pub is : found ≡ Some inode
  pub mode : inode.mode ≡ node.mode
  pub size : inode.size ≡ length node.bytes
  pub slots : node.inside ≡ false → (slot : ℕ) → slot < 15 → slot_of inode slot ≡ slot_address addresses slot
