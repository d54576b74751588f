use Rattle.dg_store.proofs.store.Store.lost.Goals as goal

pub lost_bits_of-requires-clause-stands : goal.lost_bits_of-requires-clause-stands
lost_bits_of-requires-clause-stands g c = rw c.shape.ensures.shape c.requires.built.stands
