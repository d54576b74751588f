use Rattle.ufs_frames.proofs.StructureLaws.{indirects_by}
use Rattle.ufs_frames.proofs.reaches.indirects_by_geometry.Goals as goal

pub returns : goal.returns
returns c = indirects_by
