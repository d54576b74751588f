use Rattle.dg_store.proofs.store.Store.write_first.Given as goal

abbrev pub ghost-take_back : goal.ghost-take_back
ghost-take_back g a = g.before
