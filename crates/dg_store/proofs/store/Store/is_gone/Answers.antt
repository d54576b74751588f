use Rattle.dg_store.proofs.TableLemmas.{are_slots}
use Rattle.dg_store.proofs.store.Store.is_gone.Goals as goal

pub all_lost_at-requires-clause-stands : goal.all_lost_at-requires-clause-stands
all_lost_at-requires-clause-stands g c = rw c.shape.ensures.shape c.requires.sound.built.stands

pub all_lost_at-requires-clause-within : goal.all_lost_at-requires-clause-within
all_lost_at-requires-clause-within g c = rw (c.shape.ensures.shape, c.sites-sites.ensures.sites) (are_slots c.args.self.now.map c.args.block _ c.requires.sound.table c.requires.sound.built.count)
