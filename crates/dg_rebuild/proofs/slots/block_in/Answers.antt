use Rattle.dg_rebuild.proofs.slots.block_in.Goals as goal

pub returns-clause-block : goal.returns-clause-block
returns-clause-block g c = rw c.map.ensures at c.block_at.ensures.block
