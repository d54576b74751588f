use Rattle.dg_store.proofs.store.Store.write.Given as goal

abbrev pub ghost-write_first : goal.ghost-write_first
ghost-write_first g a = a.self.now.map
