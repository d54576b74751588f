-- The bytes up to a file block.
use Rattle.std.proofs.Common.{◌≡◌, ℕ, ◌+◌, ◌*◌, min, arith}
use Rattle.ufs_model.specs.Paths.{bytes_in_block}
use Rattle.ufs_model.specs.declared.geometries.Geometry.{Geometry}
use Rattle.ufs_model.specs.declared.inodes.Inode.{Inode}

-- the bytes up to a file block, and those in it
pub bytes_through : (g : Geometry) (inode : Inode) (n : ℕ) → min (n * g.bsize) inode.size + bytes_in_block g inode n ≡ min ((n + 1) * g.bsize) inode.size
bytes_through g inode n = let more : (n + 1) * g.bsize ≡ n * g.bsize + g.bsize = omega arith in omega arith
