use Rattle.dg_store_tests.proofs.Labels.{label_fits}
use Rattle.dg_store_tests.proofs.refill_tests.label.Goals as goal

pub note-requires-clause-fits : goal.note-requires-clause-fits
note-requires-clause-fits g c good = label_fits c.args.store.now.map.shape _ (c.requires.sound.long _ (λ out. absurd (cc (good, out))))
