use Rattle.ufs_frames.proofs.LooseLaws.{one_loose}
use Rattle.ufs_frames.proofs.loose_blocks.change_of_a_loose_block.Goals as goal

pub returns : goal.returns
returns c = one_loose
