use Rattle.ufs_frames.proofs.FragmentLaws.{count_few}
use Rattle.ufs_frames.proofs.reaches.file_blocks_are_few.Goals as goal

pub returns : goal.returns
returns c = λ g inode is small. count_few inode.size g.bsize (is.bsize.1) small
