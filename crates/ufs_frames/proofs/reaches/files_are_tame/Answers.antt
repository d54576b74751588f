use Rattle.ufs_frames.proofs.TameLaws.{files_tame}
use Rattle.ufs_frames.proofs.reaches.files_are_tame.Goals as goal

pub returns : goal.returns
returns c = files_tame
