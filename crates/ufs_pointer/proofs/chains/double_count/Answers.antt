use Rattle.ufs_pointer.proofs.ChainLaws.{square}
use Rattle.ufs_pointer.proofs.chains.double_count.Goals as goal

pub returns-clause-less : goal.returns-clause-less
returns-clause-less c = (square c.args.g.now c.requires).2
