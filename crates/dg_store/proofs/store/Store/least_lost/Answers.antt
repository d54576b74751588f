use Rattle.dg_store.proofs.store.Store.least_lost.Goals as goal

pub least_lost_of-requires-clause-stands : goal.least_lost_of-requires-clause-stands
least_lost_of-requires-clause-stands g c = rw c.shape.ensures.shape c.requires.built.stands
