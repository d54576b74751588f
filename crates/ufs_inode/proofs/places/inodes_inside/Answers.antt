use Rattle.ufs_inode.proofs.NearLaws.{stands_at}
use Rattle.ufs_inode.proofs.places.inodes_inside.Goals as goal

pub returns : goal.returns
returns c = λ g inode is low. (stands_at g inode is low).inside
