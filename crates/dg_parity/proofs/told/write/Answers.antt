use Rattle.dg_parity.proofs.told.write.Goals as goal

pub returns-clause-telling : goal.returns-clause-telling
returns-clause-telling g c told alive = c.write_told.ensures.leaves.later.telling told alive

pub returns-then-not-write_told-clause-telling : goal.returns-then-not-write_told-clause-telling
returns-then-not-write_told-clause-telling g c told alive = c.write_told.ensures.leaves.later.telling told alive
