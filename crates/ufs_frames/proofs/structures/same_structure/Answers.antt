use Rattle.ufs_frames.proofs.StructureLaws.{same_structure}
use Rattle.ufs_frames.proofs.structures.same_structure.Goals as goal

pub returns : goal.returns
returns c = same_structure
