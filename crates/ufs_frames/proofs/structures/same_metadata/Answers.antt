use Rattle.ufs_frames.proofs.StructureLaws.{same_metadata}
use Rattle.ufs_frames.proofs.structures.same_metadata.Goals as goal

pub returns : goal.returns
returns c = same_metadata
