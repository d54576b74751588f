use Rattle.ufs_frames.proofs.StructureLaws.{directory_needs}
use Rattle.ufs_frames.proofs.structures.directories_need_structure.Goals as goal

pub returns : goal.returns
returns c = λ l n v g i k b inode whole is there directory small low h. directory_needs l n v whole g is i inode there directory small k low b h
