use Rattle.dg_parity.proofs.ChunkLemmas.{reads-ends, reads-whole}
use Rattle.dg_parity.proofs.updates.reads_at_ends.Goals as goal

pub returns-clause-whole : goal.returns-clause-whole
returns-clause-whole c n at size t out least whole = reads-whole n out at size t least whole

pub returns-clause-ends : goal.returns-clause-ends
returns-clause-ends c n place count out least some = reads-ends n out place count least some
