use Rattle.dg_parity.proofs.ChunkLemmas.{least-chunks, writes-chunks}
use Rattle.dg_parity.proofs.updates.calls_by_chunks.Goals as goal

pub returns-clause-reads : goal.returns-clause-reads
returns-clause-reads c n at size t out least in0 = least-chunks n out at size t least in0

pub returns-clause-writes : goal.returns-clause-writes
returns-clause-writes c n at size t out least in0 = writes-chunks n out at size t least in0
