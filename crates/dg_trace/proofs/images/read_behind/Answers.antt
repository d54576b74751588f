use Rattle.dg_trace.proofs.ReadSteps.{read_any, read_some}
use Rattle.dg_trace.proofs.images.read_behind.Goals as goal

pub returns-clause-takes : goal.returns-clause-takes
returns-clause-takes g c = read_some c.read.result _ _ _ _ _ c.read.ensures.counted.most c.read.ensures.within c.read.ensures.bytes

pub returns-clause-reads : goal.returns-clause-reads
returns-clause-reads g c = read_any c.read.result _ _ _ _ _ c.read.ensures.counted.most c.read.ensures.bytes c.read.ensures.err
