use Rattle.ufs_pointer.proofs.GapLaws.{gap_needs, gap_same}
use Rattle.ufs_pointer.proofs.gaps.gaps_read_the_same.Goals as goal

pub returns-clause-same : goal.returns-clause-same
returns-clause-same c = gap_same

pub returns-clause-needs : goal.returns-clause-needs
returns-clause-needs c = gap_needs
