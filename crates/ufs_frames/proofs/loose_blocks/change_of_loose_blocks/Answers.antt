use Rattle.ufs_frames.proofs.LooseLaws.{differ_loosely}
use Rattle.ufs_frames.proofs.loose_blocks.change_of_loose_blocks.Goals as goal

pub returns : goal.returns
returns c = differ_loosely
